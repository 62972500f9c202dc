-- What is left of a tuple after its first types.
-- Signs are bytes: 41 is `)`, 44 `,`.
use Rattle.std.proofs.Common.{◌≡◌, ℕ, List, [], ◌∷◌, ◌++◌, length, Vec, refl, ap, ◌∙◌, subst, arith, ◌⊎◌, inl, inr}
use Rattle.std.specs.declared.alloc.Global.{Global}
use Rattle.postcard_schema.specs.declared.schema.Schema.{Schema}
use Rattle.postcard_schema.specs.Meaning.{group, no_types, type_of, types_of}
use Rattle.postcard_schema_text.specs.Text.{TakesPhrase, IsSign, GoesOnBy}
use Rattle.postcard_schema_text.specs.Grammar.{Separated, IsTupleEnd, IsTupleRest, IsType}
use Rattle.postcard_schema_text.specs.Fronts.{follows_type, HasFront, IsOnlyFront, SameType}
use Rattle.postcard_schema_text.specs.FrontLemmas.{takes_split, sign_unblank, not_empty}
use Rattle.postcard_schema.specs.Lemmas.{type_of_tuple}
use Rattle.postcard_schema_text.proofs.Heads.{After, separated_first, type_head, starts_type, starts_not_by}
use Rattle.postcard_schema_text.proofs.Left.{after_sign, other_sign, alike_types, RowLeft, RowAfter, RowFront, RowEnds, row_front, row_after, row_goes, row_ends, row_follows}

-- A type begins with no `)`.
type_not_close : (d : ℕ) (s : Schema) (a m e : List ℕ) → TakesPhrase (IsType d s) a m → TakesPhrase (IsSign 41) a e → ⊥
type_not_close d s a m e h close = starts_not_by starts_type 41 a e refl refl (type_head d s a m h) close

-- What follows a `(` and is not `)` alone begins with a type.
pub record TupleFront (d : ℕ) (s : Schema) (a r : List ℕ) : Type 0 where
  pub first : Schema
  pub rest : List ℕ
  pub taken : TakesPhrase (IsType d first) a rest
  pub goes : GoesOnBy follows_type rest
  pub left : ((type_of s ≡ type_of first) × TakesPhrase (IsSign 41) rest r)
      ⊎ ((v : Vec Schema Global) × (more : List Schema) × (k : List ℕ) × (type_of s ≡ group (types_of v.items)) × (v.items ≡ first ∷ more) × After (IsType d) 44 more rest k × TakesPhrase (IsTupleEnd (length v.items)) k r)

-- The end of a tuple may follow a type.
tuple_end_goes : (n : ℕ) (a r : List ℕ) → TakesPhrase (IsTupleEnd n) a r → GoesOnBy follows_type a
tuple_end_goes n a r (front, inl h, whole) = let k = takes_split (IsSign 44) (IsSign 41) a r (front, h, whole) in inr (44, k.0, refl, k.1)
tuple_end_goes n a r (front, inr (many, h), whole) = inr (41, r, refl, (front, h, whole))

-- A tuple is `)` alone, or begins with a type.
pub tuple_front : (d : ℕ) (s : Schema) (a r : List ℕ) → TakesPhrase (IsTupleRest (IsType d) s) a r
    → ((type_of s ≡ group no_types) × TakesPhrase (IsSign 41) a r) ⊎ TupleFront d s a r
tuple_front d s a r (front, inl (v, is, none, close), whole) = inl (ap type_of is ∙ type_of_tuple v ∙ ap (λ ss. group (types_of ss)) none, (front, close, whole))
tuple_front d s a r (front, inr (inl h), whole) =
    let k = takes_split (IsType d s) (IsSign 41) a r (front, h, whole) in
    inr record { first = s; rest = k.0; taken = k.1; goes = inr (41, r, refl, k.2); left = inl (refl, k.2) }
tuple_front d s a r (front, inr (inr (v, is, h)), whole) =
    let k = takes_split (Separated (IsType d) 44 v.items) (IsTupleEnd (length v.items)) a r (front, h, whole) in
    let f = separated_first (IsType d) 44 v.items a k.0 k.1 in
    inr record {
      first = f.0;
      rest = f.2;
      taken = f.4;
      goes = row_follows (IsType d) 44 follows_type f.1 f.2 k.0 refl f.5 (tuple_end_goes (length v.items) k.0 r k.2);
      left = inr (v, f.1, k.0, ap type_of is ∙ type_of_tuple v, f.3, f.5, k.2);
    }

-- After a `)` nothing is left.
pub tuple_empty : (d : ℕ) (s : Schema) (a e r : List ℕ) → TakesPhrase (IsTupleRest (IsType d) s) a r → TakesPhrase (IsSign 41) a e
    → (type_of s ≡ group no_types) × (r ≡ e)
tuple_empty d s a e r h close = elim (tuple_front d s a r h) [
  | inl k ↦ (k.0, after_sign 41 a r e refl k.1 close)
  | inr f ↦ absurd (type_not_close d f.first a f.rest e f.taken close)
]

-- Without a `)` there is a type.
pub tuple_first : (d : ℕ) (s : Schema) (a r : List ℕ) → TakesPhrase (IsTupleRest (IsType d) s) a r → ((e : List ℕ) → TakesPhrase (IsSign 41) a e → ⊥) → TupleFront d s a r
tuple_first d s a r h none = elim (tuple_front d s a r h) [
  | inl k ↦ absurd (none r k.1)
  | inr f ↦ f
]

-- A tuple that isn't empty begins with a type.
pub tuple_begins : (d : ℕ) (s : Schema) (a r : List ℕ) → TupleFront d s a r → HasFront (GoesOnBy follows_type) (IsType d) a
tuple_begins d s a r f = (f.first, f.rest, f.taken, f.goes)

-- What is left of a tuple after a type.
pub record TupleAfter (d : ℕ) (done : List Schema) (s : Schema) (a r : List ℕ) : Type 0 where
  pub parts : Vec Schema Global
  pub end : List ℕ
  pub is : type_of s ≡ group (types_of parts.items)
  pub row : RowAfter (IsType d) 44 SameType done parts.items a end
  pub takes_end : TakesPhrase (IsTupleEnd (length parts.items)) end r

-- The end of a tuple of one part has a `,`.
tuple_end_one : (n : ℕ) (a e r : List ℕ) → n ≡ 1 → TakesPhrase (IsTupleEnd n) a r → TakesPhrase (IsSign 41) a e → ⊥
tuple_end_one n a e r one (front, inl h, whole) close =
    let k = takes_split (IsSign 44) (IsSign 41) a r (front, h, whole) in other_sign 44 41 a k.0 e refl refl refl k.1 close
tuple_end_one n a e r one (front, inr (many, h), whole) close = omega (arith, one, many)

-- After the first type and a `)`, the whole is that type; x is the type that was taken.
pub tuple_single : (d : ℕ) (s x : Schema) (a c e r : List ℕ) → IsOnlyFront SameType (GoesOnBy follows_type) (IsType d) x a c → TupleFront d s a r
    → TakesPhrase (IsSign 41) c e → (type_of s ≡ type_of x) × (r ≡ e)
tuple_single d s x a c e r one f close =
    let only = one f.first f.rest f.taken f.goes in
    let here : TakesPhrase (IsSign 41) f.rest e = rw only.1 close in
    elim f.left [
      | inl k ↦ (k.0 ∙ only.0, after_sign 41 f.rest r e refl k.1 here)
      | inr (v, [], k, is, items, same, end) ↦ absurd (tuple_end_one (length v.items) k e r (ap length items) end (subst (λ t. TakesPhrase (IsSign 41) t e) same here))
      | inr (v, u ∷ us, k, is, items, (m, comma, row), end) ↦ absurd (other_sign 44 41 f.rest m e refl refl refl comma here)
    ]

-- Otherwise it is a tuple, of which x is the first type.
pub tuple_after_first : (d : ℕ) (s x : Schema) (a c r : List ℕ) → IsOnlyFront SameType (GoesOnBy follows_type) (IsType d) x a c → TupleFront d s a r
    → ((e : List ℕ) → TakesPhrase (IsSign 41) c e → ⊥) → TupleAfter d (x ∷ []) s c r
tuple_after_first d s x a c r one f none =
    let only = one f.first f.rest f.taken f.goes in
    elim f.left [
      | inl k ↦ absurd (none r (subst (λ t. TakesPhrase (IsSign 41) t r) only.1 k.1))
      | inr (v, more, k, is, items, left, end) ↦ record {
        parts = v;
        end = k;
        is = is;
        row = record { before = f.first ∷ []; more = more; whole = items; alike = (only.0, tt); left = subst (λ t. After (IsType d) 44 more t k) only.1 left };
        takes_end = end;
      }
    ]

-- Where the parts end, the tuple has the types of those taken.
tuple_types : (done : List Schema) (s : Schema) (v : Vec Schema Global) (a k : List ℕ) → type_of s ≡ group (types_of v.items)
    → RowEnds SameType done v.items a k → type_of s ≡ group (types_of done)
tuple_types done s v a k is h = is ∙ ap group (alike_types v.items done h.alike)

-- The end of a tuple begins with a `,`, or with a `)` that ends it.
end_sign : (n : ℕ) (a k r : List ℕ) → a ≡ k → TakesPhrase (IsTupleEnd n) k r
    → ((m : List ℕ) × TakesPhrase (IsSign 44) a m × TakesPhrase (IsSign 41) m r) ⊎ TakesPhrase (IsSign 41) a r
end_sign n a k r same (front, inl h, whole) = inl (takes_split (IsSign 44) (IsSign 41) a r (front, h, same ∙ whole))
end_sign n a k r same (front, inr (many, h), whole) = inr (front, h, same ∙ whole)

-- After a type comes `,` or `)`.
pub tuple_go_on : (d : ℕ) (done : List Schema) (s : Schema) (a r : List ℕ) → TupleAfter d done s a r
    → ((e : List ℕ) → TakesPhrase (IsSign 41) a e → ⊥) → ((e : List ℕ) → TakesPhrase (IsSign 44) a e → ⊥) → ⊥
tuple_go_on d done s a r h no_close no_comma =
    let ends = row_ends (IsType d) 44 SameType done h.parts.items a h.end h.row no_comma in
    elim (end_sign (length h.parts.items) a h.end r ends.same h.takes_end) [
      | inl (m, comma, close) ↦ no_comma m comma
      | inr close ↦ no_close r close
    ]

-- After a type and `)` nothing is left.
pub tuple_close : (d : ℕ) (done : List Schema) (s : Schema) (a e r : List ℕ) → TupleAfter d done s a r → TakesPhrase (IsSign 41) a e
    → (type_of s ≡ group (types_of done)) × (r ≡ e)
tuple_close d done s a e r h close =
    let no_comma = λ (m : List ℕ) (comma : TakesPhrase (IsSign 44) a m). other_sign 44 41 a m e refl refl refl comma close in
    let ends = row_ends (IsType d) 44 SameType done h.parts.items a h.end h.row no_comma in (
      tuple_types done s h.parts a h.end h.is ends,
      elim (end_sign (length h.parts.items) a h.end r ends.same h.takes_end) [
        | inl (m, comma, end) ↦ absurd (no_comma m comma)
        | inr end ↦ after_sign 41 a r e refl end close
      ],
    )

-- What is left of a tuple where a type is next.
pub record TupleLeft (d : ℕ) (done : List Schema) (s : Schema) (a r : List ℕ) : Type 0 where
  pub parts : Vec Schema Global
  pub end : List ℕ
  pub is : type_of s ≡ group (types_of parts.items)
  pub row : RowLeft (IsType d) 44 SameType done parts.items a end
  pub takes_end : TakesPhrase (IsTupleEnd (length parts.items)) end r

-- After a `,` comes `)`, or another type.
tuple_comma : (d : ℕ) (done : List Schema) (s : Schema) (a c r : List ℕ) → TupleAfter d done s a r → TakesPhrase (IsSign 44) a c
    → ((type_of s ≡ group (types_of done)) × TakesPhrase (IsSign 41) c r) ⊎ TupleLeft d done s c r
tuple_comma d done s a c r h comma = elim (row_goes (IsType d) 44 SameType done h.parts.items a c h.end refl h.row comma) [
  | inl ends ↦ inl (
    tuple_types done s h.parts a h.end h.is ends,
    elim (end_sign (length h.parts.items) a h.end r ends.same h.takes_end) [
      | inl (m, first, close) ↦ subst (λ t. TakesPhrase (IsSign 41) t r) (after_sign 44 a m c refl first comma) close
      | inr close ↦ absurd (other_sign 44 41 a c r refl refl refl comma close)
    ],
  )
  | inr row ↦ inr record { parts = h.parts; end = h.end; is = h.is; row = row; takes_end = h.takes_end }
]

-- After `,` and `)` nothing is left.
pub tuple_comma_close : (d : ℕ) (done : List Schema) (s : Schema) (a c e r : List ℕ) → TupleAfter d done s a r → TakesPhrase (IsSign 44) a c
    → TakesPhrase (IsSign 41) c e → (type_of s ≡ group (types_of done)) × (r ≡ e)
tuple_comma_close d done s a c e r h comma close = elim (tuple_comma d done s a c r h comma) [
  | inl k ↦ (k.0, after_sign 41 c r e refl k.1 close)
  | inr k ↦ (let f = row_front (IsType d) 44 SameType done k.parts.items c k.end k.row in absurd (type_not_close d f.first c f.rest e f.taken close))
]

-- After a `,` and without a `)` a type is next.
pub tuple_next : (d : ℕ) (done : List Schema) (s : Schema) (a c r : List ℕ) → TupleAfter d done s a r → TakesPhrase (IsSign 44) a c
    → ((e : List ℕ) → TakesPhrase (IsSign 41) c e → ⊥) → TupleLeft d done s c r
tuple_next d done s a c r h comma none = elim (tuple_comma d done s a c r h comma) [
  | inl k ↦ absurd (none r k.1)
  | inr k ↦ k
]

-- After the part that is next comes what may follow a type.
next_goes : (d : ℕ) (done : List Schema) (s : Schema) (a r : List ℕ) → (h : TupleLeft d done s a r)
    → (f : RowFront (IsType d) 44 SameType done h.parts.items a h.end) → GoesOnBy follows_type f.rest
next_goes d done s a r h f = row_follows (IsType d) 44 follows_type f.more f.rest h.end refl f.left (tuple_end_goes (length h.parts.items) h.end r h.takes_end)

-- Where a type of a tuple is next, the text begins with one.
pub tuple_next_begins : (d : ℕ) (done : List Schema) (s : Schema) (a r : List ℕ) → TupleLeft d done s a r → HasFront (GoesOnBy follows_type) (IsType d) a
tuple_next_begins d done s a r h =
    let f = row_front (IsType d) 44 SameType done h.parts.items a h.end h.row in
    (f.first, f.rest, f.taken, next_goes d done s a r h f)

-- What is left after the next type, which is x.
pub tuple_after : (d : ℕ) (done : List Schema) (s x : Schema) (a c r : List ℕ) → TupleLeft d done s a r
    → IsOnlyFront SameType (GoesOnBy follows_type) (IsType d) x a c → TupleAfter d (done ++ x ∷ []) s c r
tuple_after d done s x a c r h one =
    let f = row_front (IsType d) 44 SameType done h.parts.items a h.end h.row in
    let only = one f.first f.rest f.taken (next_goes d done s a r h f) in
    record { parts = h.parts; end = h.end; is = h.is; row = row_after (IsType d) 44 SameType done h.parts.items x a c h.end f only.0 only.1; takes_end = h.takes_end }

-- After a type the text doesn't end.
pub tuple_not_ended : (d : ℕ) (done : List Schema) (s : Schema) (r : List ℕ) → TupleAfter d done s [] r → ⊥
tuple_not_ended d done s r h = tuple_go_on d done s [] r h (λ e k. not_empty (sign_unblank 41 [] e refl k)) (λ e k. not_empty (sign_unblank 44 [] e refl k))

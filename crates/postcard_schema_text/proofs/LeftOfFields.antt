-- What is left of a struct after its first fields.
-- Signs are bytes: 44 is `,`, 58 `:`, 125 `}`.
use Rattle.std.proofs.Common.{◌≡◌, ℕ, ◌<◌, Bool, true, false, Decides, List, [], ◌∷◌, ◌++◌, length, Vec, string_bytes, refl, sym, ap, ◌∙◌, subst, true≢false, arith, ◌⊎◌, inl, inr}
use Rattle.std.specs.declared.alloc.Global.{Global}
use Rattle.std.proofs.lemmas.List.Elements.{All-nil, All-push, All-head, All-tail}
use Rattle.postcard_schema.specs.declared.schema.Named.{Named}
use Rattle.postcard_schema.specs.declared.schema.Schema.{Schema}
use Rattle.postcard_schema.specs.Lemmas.{type_of_struct}
use Rattle.postcard_schema.specs.Meaning.{contents, group, type_of, types_of}
use Rattle.postcard_schema_text.specs.Names.{HasOther, IsNewTo, NamesDiffer}
use Rattle.postcard_schema_text.specs.Text.{Then, TakesPhrase, IsSign, IsMaybe, IsWord, IsIdentifier, is_of_word, GoesOnBy}
use Rattle.postcard_schema_text.specs.Grammar.{Separated, IsField, IsFieldsRest, IsNew}
use Rattle.postcard_schema_text.specs.Fronts.{follows_type, HasFront, IsOnlyFront, SameNamed, IsNamed}
use Rattle.postcard_schema_text.specs.FrontLemmas.{takes_split, WordTaken, same_word, sign_ends_word, not_empty}
use Rattle.postcard_schema_text.proofs.Heads.{field_head, starts_not_by}
use Rattle.postcard_schema_text.proofs.Left.{after_sign, other_sign, alike_contents, RowLeft, RowAfter, RowFront, RowEnds, row_front, row_after, row_goes, row_ends, row_follows, row_new}

abbrev Types : Type 1
Types = Schema → List ℕ → Type 0

-- A word of a text that has been taken whole, with a sign after it.
pub named_word : (w v a b c d : List ℕ) (sign : ℕ) → 0 < length w → is_of_word sign ≡ false → WordTaken a v b → TakesPhrase (IsWord w) a c
    → TakesPhrase (IsSign sign) c d → (w ≡ v) × (c ≡ b)
named_word [] v a b c d sign filled none taken word h = absurd (omega (arith, filled))
named_word (x ∷ w) v a b c d sign filled none taken word h = same_word x w v a b c taken word (sign_ends_word sign c d none h)

-- The field whose name is the word v that was taken.
pub record FieldFront (T : Types) (x : Named Schema) (v b r : List ℕ) : Type 0 where
  pub called : string_bytes x.name ≡ v
  pub named : IsIdentifier v
  pub colon : List ℕ
  pub takes_colon : TakesPhrase (IsSign 58) b colon
  pub takes_content : TakesPhrase (T x.content) colon r

-- The word that was taken is the name of the field that is next.
pub field_front : (T : Types) (x : Named Schema) (a v b r : List ℕ) → WordTaken a v b → TakesPhrase (IsField T x) a r → FieldFront T x v b r
field_front T x a v b r taken (front, (named, h), whole) =
    let name = takes_split (IsWord (string_bytes x.name)) (Then (IsSign 58) (T x.content)) a r (front, h, whole) in
    let colon = takes_split (IsSign 58) (T x.content) name.0 r name.2 in
    let same = named_word (string_bytes x.name) v a b name.0 colon.0 58 named.0 refl taken name.1 colon.1 in
    record {
      called = same.0;
      named = subst IsIdentifier same.0 named;
      colon = colon.0;
      takes_colon = subst (λ t. TakesPhrase (IsSign 58) t colon.0) same.1 colon.1;
      takes_content = colon.2;
    }

-- After the `:` its type is next.
pub field_content : (T : Types) (x : Named Schema) (v b c r : List ℕ) → FieldFront T x v b r → TakesPhrase (IsSign 58) b c → TakesPhrase (T x.content) c r
field_content T x v b c r h colon = subst (λ t. TakesPhrase (T x.content) t r) (after_sign 58 b h.colon c refl h.takes_colon colon) h.takes_content

-- The end of a struct: a `,` or none, and then `}`.
abbrev pub FieldsEnd : List ℕ → Type 0
FieldsEnd text = Then (IsMaybe 44) (IsSign 125) text

-- What is left of a struct where a field is next.
pub record FieldsLeft (T : Types) (done : List (Named Schema)) (s : Schema) (a r : List ℕ) : Type 0 where
  pub fields : Vec (Named Schema) Global
  pub end : List ℕ
  pub is : type_of s ≡ group (types_of (contents fields.items))
  pub differ : NamesDiffer fields.items
  pub row : RowLeft (IsField T) 44 SameNamed done fields.items a end
  pub takes_end : TakesPhrase FieldsEnd end r

-- The same after a field.
pub record FieldsAfter (T : Types) (done : List (Named Schema)) (s : Schema) (a r : List ℕ) : Type 0 where
  pub fields : Vec (Named Schema) Global
  pub end : List ℕ
  pub is : type_of s ≡ group (types_of (contents fields.items))
  pub differ : NamesDiffer fields.items
  pub row : RowAfter (IsField T) 44 SameNamed done fields.items a end
  pub takes_end : TakesPhrase FieldsEnd end r

-- After the `{` of a struct, its first field is next.
pub fields_begin : (T : Types) (s : Schema) (a r : List ℕ) → TakesPhrase (IsFieldsRest T s) a r → FieldsLeft T [] s a r
fields_begin T s a r (front, (v, is, differ, h), whole) =
    let k = takes_split (Separated (IsField T) 44 v.items) FieldsEnd a r (front, h, whole) in
    record {
      fields = v;
      end = k.0;
      is = ap type_of is ∙ type_of_struct v;
      differ = differ;
      row = record { before = []; more = v.items; whole = refl; alike = tt; left = k.1 };
      takes_end = k.2;
    }

-- The end of a struct is a `}`, with a `,` before it or none.
end_sign : (a r : List ℕ) → TakesPhrase FieldsEnd a r → TakesPhrase (IsSign 125) a r ⊎ ((k : List ℕ) × TakesPhrase (IsSign 44) a k × TakesPhrase (IsSign 125) k r)
end_sign a r h = let (k, (f, comma, e), close) = takes_split (IsMaybe 44) (IsSign 125) a r h in elim comma [
  | inl none ↦ inl (subst (λ t. TakesPhrase (IsSign 125) t r) (sym (e ∙ ap (λ t. t ++ k) none)) close)
  | inr sign ↦ inr (k, (f, sign, e), close)
]

-- What may follow a field.
end_goes : (a r : List ℕ) → TakesPhrase FieldsEnd a r → GoesOnBy follows_type a
end_goes a r h = elim (end_sign a r h) [
  | inl close ↦ inr (125, r, refl, close)
  | inr (k, comma, close) ↦ inr (44, k, refl, comma)
]

-- After the field that is next comes what may follow a type.
field_goes : (T : Types) (done : List (Named Schema)) (s : Schema) (a r : List ℕ) (h : FieldsLeft T done s a r) (f : RowFront (IsField T) 44 SameNamed done h.fields.items a h.end) → GoesOnBy follows_type f.rest
field_goes T done s a r h f = row_follows (IsField T) 44 follows_type f.more f.rest h.end refl f.left (end_goes h.end r h.takes_end)

-- The next field.
pub fields_field : (T : Types) (done : List (Named Schema)) (s : Schema) (a r : List ℕ) → FieldsLeft T done s a r
    → HasFront (GoesOnBy follows_type) (IsNew done (IsField T)) a
fields_field T done s a r h =
    let f = row_front (IsField T) 44 SameNamed done h.fields.items a h.end h.row in
    (f.first, f.rest, row_new (IsField T) 44 done h.fields.items a h.end h.differ f, field_goes T done s a r h f)

-- What is left after the next field, which is y.
pub fields_after : (T : Types) (done : List (Named Schema)) (s : Schema) (y : Named Schema) (a c r : List ℕ) → FieldsLeft T done s a r
    → IsOnlyFront SameNamed (GoesOnBy follows_type) (IsNew done (IsField T)) y a c → FieldsAfter T (done ++ y ∷ []) s c r
fields_after T done s y a c r h one =
    let f = row_front (IsField T) 44 SameNamed done h.fields.items a h.end h.row in
    let only = one f.first f.rest (row_new (IsField T) 44 done h.fields.items a h.end h.differ f) (field_goes T done s a r h f) in
    record {
      fields = h.fields;
      end = h.end;
      is = h.is;
      differ = h.differ;
      row = row_after (IsField T) 44 SameNamed done h.fields.items y a c h.end f only.0 only.1;
      takes_end = h.takes_end;
    }

-- Where a `}` follows the last field, or a `,` and `}`.
pub record FieldsClosed (done : List (Named Schema)) (s : Schema) (e r : List ℕ) : Type 0 where
  pub is : type_of s ≡ group (types_of (contents done))
  pub same : r ≡ e

-- Where the fields end, the struct has the types of those taken.
ended : (done : List (Named Schema)) (s : Schema) (v : Vec (Named Schema) Global) (a k : List ℕ) → type_of s ≡ group (types_of (contents v.items))
    → RowEnds SameNamed done v.items a k
    → type_of s ≡ group (types_of (contents done))
ended done s v a k is h = is ∙ ap group (alike_contents v.items done h.alike)

-- The `}` that ends the fields is the only one there.
close_at : (T : Types) (done : List (Named Schema)) (s : Schema) (a e r : List ℕ) → FieldsAfter T done s a r → TakesPhrase (IsSign 125) a e → FieldsClosed done s e r
close_at T done s a e r h close =
    let no_comma = λ (m : List ℕ) (comma : TakesPhrase (IsSign 44) a m). other_sign 44 125 a m e refl refl refl comma close in
    let ends = row_ends (IsField T) 44 SameNamed done h.fields.items a h.end h.row no_comma in
    record {
      is = ended done s h.fields a h.end h.is ends;
      same = elim (end_sign a r (rw ends.same h.takes_end)) [
        | inl end ↦ after_sign 125 a r e refl end close
        | inr (k, comma, end) ↦ absurd (no_comma k comma)
      ];
    }

-- After a `,` the struct is closed, or a field is next.
fields_comma : (T : Types) (done : List (Named Schema)) (s : Schema) (a c r : List ℕ) → FieldsAfter T done s a r → TakesPhrase (IsSign 44) a c
    → ((type_of s ≡ group (types_of (contents done))) × TakesPhrase (IsSign 125) c r) ⊎ FieldsLeft T done s c r
fields_comma T done s a c r h comma = elim (row_goes (IsField T) 44 SameNamed done h.fields.items a c h.end refl h.row comma) [
  | inl ends ↦ inl (
    ended done s h.fields a h.end h.is ends,
    elim (end_sign a r (rw ends.same h.takes_end)) [
      | inl close ↦ absurd (other_sign 44 125 a c r refl refl refl comma close)
      | inr (k, first, close) ↦ subst (λ t. TakesPhrase (IsSign 125) t r) (after_sign 44 a k c refl first comma) close
    ],
  )
  | inr row ↦ inr record { fields = h.fields; end = h.end; is = h.is; differ = h.differ; row = row; takes_end = h.takes_end }
]

-- Where a field is next, no `}` is, and the text doesn't end.
fields_not_close : (T : Types) (done : List (Named Schema)) (s : Schema) (a e r : List ℕ) → FieldsLeft T done s a r → TakesPhrase (IsSign 125) a e → ⊥
fields_not_close T done s a e r h close =
    let f = row_front (IsField T) 44 SameNamed done h.fields.items a h.end h.row in
    starts_not_by is_of_word 125 a e refl refl (field_head T f.first a f.rest f.taken) close

-- Where a field is next, the text doesn't end.
pub fields_not_ended : (T : Types) (done : List (Named Schema)) (s : Schema) (r : List ℕ) → FieldsLeft T done s [] r → ⊥
fields_not_ended T done s r h =
    let f = row_front (IsField T) 44 SameNamed done h.fields.items [] h.end h.row in
    not_empty (field_head T f.first [] f.rest f.taken).2

-- After a field and a `}`, with a `,` between them or none, nothing is left.
pub fields_close : (T : Types) (done : List (Named Schema)) (s : Schema) (comma : Bool) (a c e r : List ℕ) → FieldsAfter T done s a r
    → (comma ≡ true → TakesPhrase (IsSign 44) a c) → (comma ≡ false → c ≡ a) → TakesPhrase (IsSign 125) c e → FieldsClosed done s e r
fields_close T done s false a c e r h taken same close = close_at T done s a e r h (subst (λ t. TakesPhrase (IsSign 125) t e) (same refl) close)
fields_close T done s true a c e r h taken same close = elim (fields_comma T done s a c r h (taken refl)) [
  | inl k ↦ record { is = k.0; same = after_sign 125 c r e refl k.1 close }
  | inr k ↦ absurd (fields_not_close T done s c e r k close)
]

-- After a `,` and without a `}` a field is next.
pub fields_next : (T : Types) (done : List (Named Schema)) (s : Schema) (a c r : List ℕ) → FieldsAfter T done s a r → TakesPhrase (IsSign 44) a c
    → ((e : List ℕ) → TakesPhrase (IsSign 125) c e → ⊥) → FieldsLeft T done s c r
fields_next T done s a c r h comma none = elim (fields_comma T done s a c r h comma) [
  | inl k ↦ absurd (none r k.1)
  | inr k ↦ k
]

-- After a field comes a `}` or a `,`.
pub fields_go_on : (T : Types) (done : List (Named Schema)) (s : Schema) (a r : List ℕ) → FieldsAfter T done s a r
    → ((e : List ℕ) → TakesPhrase (IsSign 125) a e → ⊥) → ((e : List ℕ) → TakesPhrase (IsSign 44) a e → ⊥) → ⊥
fields_go_on T done s a r h no_close no_comma =
    let ends = row_ends (IsField T) 44 SameNamed done h.fields.items a h.end h.row no_comma in
    elim (end_sign a r (rw ends.same h.takes_end)) [
      | inl close ↦ no_close r close
      | inr (k, comma, close) ↦ no_comma k comma
    ]

-- A struct begins with a name and a `:`.
pub fields_named : (T : Types) (s : Schema) (a r : List ℕ) → TakesPhrase (IsFieldsRest T s) a r → IsNamed a
fields_named T s a r h =
    let k = fields_begin T s a r h in
    let f = row_front (IsField T) 44 SameNamed [] k.fields.items a k.end k.row in
    let name = takes_split (IsWord (string_bytes f.first.name)) (Then (IsSign 58) (T f.first.content)) a f.rest (f.taken.0, f.taken.1.1, f.taken.2) in
    let colon = takes_split (IsSign 58) (T f.first.content) name.0 f.rest name.2 in
    (string_bytes f.first.name, name.0, colon.0, f.taken.1.0.0, name.1, colon.1)

-- A row in which names differ, and one more with a new name.
pub names_more : (done : List (Named Schema)) (y : Named Schema) → NamesDiffer done → IsNewTo done (string_bytes y.name) → NamesDiffer (done ++ y ∷ [])
names_more [] y differ new = (All-nil (HasOther (string_bytes y.name)), tt)
names_more (n ∷ ns) y differ new = (
  All-push (HasOther (string_bytes n.name)) ns y differ.0 (λ same. All-head (HasOther (string_bytes y.name)) n ns new (sym same)),
  names_more ns y differ.1 (All-tail (HasOther (string_bytes y.name)) n ns new),
)

-- Whether a name and a `:` are next, by the word that was taken and whether a `:` was.
pub named_if : (text word after new : List ℕ) (r : Bool) → WordTaken text word after → TakesPhrase (IsWord word) text after → 0 < length word
    → (r ≡ true → TakesPhrase (IsSign 58) after new) → (r ≡ false → (q : List ℕ) → TakesPhrase (IsSign 58) after q → ⊥) → Decides r (IsNamed text)
named_if text word after new r taken whole filled given missing = (λ e. (word, after, new, filled, whole, given e), by r missing)
  where
    by : (b : Bool) → (b ≡ false → (q : List ℕ) → TakesPhrase (IsSign 58) after q → ⊥) → IsNamed text → b ≡ true
    by true none h = refl
    by false none (w, a, q, more, h, colon) =
        absurd (none refl q (subst (λ t. TakesPhrase (IsSign 58) t q) (named_word w word text after a q 58 more refl taken h colon).1 colon))

-- Without a word and a `:`, no field is next.
pub named_unless : (text word after : List ℕ) (r : Bool) → WordTaken text word after → length word ≡ 0 → r ≡ false → Decides r (IsNamed text)
named_unless text word after r taken none is =
    (λ e. absurd (true≢false (sym e ∙ is)), λ (w, a, q, filled, h, colon). absurd (omega (arith, none, filled, ap length (named_word w word text after a q 58 filled refl taken h colon).0)))

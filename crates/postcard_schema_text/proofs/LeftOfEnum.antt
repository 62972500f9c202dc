-- What is left of an enum after its first variants, and of a variant after its name.
-- Signs are bytes: 40 is `(`, 123 `{`, 124 `|`.
use Rattle.std.proofs.Common.{◌≡◌, ℕ, suc, ◌<◌, Bool, true, false, List, [], ◌∷◌, ◌++◌, length, Vec, string_bytes, refl, sym, ap, ◌∙◌, subst, arith, inl, inr}
use Rattle.std.specs.declared.alloc.Global.{Global}
use Rattle.std.specs.Char.{is_ascii_uppercase}
use Rattle.postcard_schema.specs.declared.schema.Named.{Named}
use Rattle.postcard_schema.specs.declared.schema.Schema.{Schema}
use Rattle.postcard_schema.specs.Lemmas.{type_of_tuple, type_of_enum}
use Rattle.postcard_schema.specs.Meaning.{choice, contents, group, no_types, type_of, types_of}
use Rattle.postcard_schema_text.specs.Names.{IsNewTo, IsTakenIn, NamesDiffer}
use Rattle.postcard_schema_text.specs.Text.{TakesPhrase, IsSign, IsWord, IsVariantName, EndsWord, GoesOnBy}
use Rattle.postcard_schema_text.specs.Grammar.{Separated, IsTupleRest, IsFieldsRest, IsContent, IsVariantText, IsNew, IsLead, IsEnumText}
use Rattle.postcard_schema_text.specs.Fronts.{follows_type, follows_variant, HasFront, IsOnlyFront, SameNamed}
use Rattle.postcard_schema_text.specs.FrontLemmas.{takes_split, WordTaken, same_word, sign_ends_word, not_empty}
use Rattle.postcard_schema_text.proofs.Heads.{variant_head, separated_first, starts_not_by}
use Rattle.postcard_schema_text.proofs.Left.{after_sign, other_sign, goes_variant, goes_ends_word, not_next, not_next_type, Alike, alike_contents, RowLeft, RowAfter, RowFront, row_front, row_after, row_goes, row_ends, row_follows, row_new}

abbrev Types : Type 1
Types = Schema → List ℕ → Type 0

-- A name that is new is not taken.
pub taken_not_new : (ns : List (Named Schema)) (name : List ℕ) → IsNewTo ns name → IsTakenIn ns name → ⊥
taken_not_new ns name new (n, (k, low, e), called) = new k n low (subst (λ x. string_bytes x.name ≡ name) (sym e) called)

-- A filled word of a text that has been taken whole, and that doesn't go on.
pub whole_word : (w v a b c : List ℕ) → 0 < length w → WordTaken a v b → TakesPhrase (IsWord w) a c → EndsWord c → (w ≡ v) × (c ≡ b)
whole_word [] v a b c filled taken word ends = absurd (omega (arith, filled))
whole_word (x ∷ w) v a b c filled taken word ends = same_word x w v a b c taken word ends

-- What is left after a `(`.
pub content_in_tuple : (T : Types) (s : Schema) (a b r : List ℕ) → TakesPhrase (IsContent T s) a r → GoesOnBy follows_variant r
    → TakesPhrase (IsSign 40) a b → TakesPhrase (IsTupleRest T s) b r
content_in_tuple T s a b r (front, inl h, whole) goes open_sign =
    let k = takes_split (IsSign 40) (IsTupleRest T s) a r (front, h, whole) in
    subst (λ t. TakesPhrase (IsTupleRest T s) t r) (after_sign 40 a k.0 b refl k.1 open_sign) k.2
content_in_tuple T s a b r (front, inr (inl h), whole) goes open_sign =
    let k = takes_split (IsSign 123) (IsFieldsRest T s) a r (front, h, whole) in
    absurd (other_sign 123 40 a k.0 b refl refl refl k.1 open_sign)
content_in_tuple T s a b r (front, inr (inr (v, is, empty, none)), whole) goes open_sign =
    absurd (not_next 40 r b refl refl goes (subst (λ t. TakesPhrase (IsSign 40) t b) (whole ∙ ap (λ t. t ++ r) none) open_sign))

-- What is left after a `{`.
pub content_in_fields : (T : Types) (s : Schema) (a b r : List ℕ) → TakesPhrase (IsContent T s) a r → GoesOnBy follows_variant r
    → TakesPhrase (IsSign 123) a b → TakesPhrase (IsFieldsRest T s) b r
content_in_fields T s a b r (front, inl h, whole) goes open_sign =
    let k = takes_split (IsSign 40) (IsTupleRest T s) a r (front, h, whole) in
    absurd (other_sign 40 123 a k.0 b refl refl refl k.1 open_sign)
content_in_fields T s a b r (front, inr (inl h), whole) goes open_sign =
    let k = takes_split (IsSign 123) (IsFieldsRest T s) a r (front, h, whole) in
    subst (λ t. TakesPhrase (IsFieldsRest T s) t r) (after_sign 123 a k.0 b refl k.1 open_sign) k.2
content_in_fields T s a b r (front, inr (inr (v, is, empty, none)), whole) goes open_sign =
    absurd (not_next 123 r b refl refl goes (subst (λ t. TakesPhrase (IsSign 123) t b) (whole ∙ ap (λ t. t ++ r) none) open_sign))

-- Without these nothing is left.
pub content_of_none : (T : Types) (s : Schema) (a r : List ℕ) → TakesPhrase (IsContent T s) a r → ((b : List ℕ) → TakesPhrase (IsSign 40) a b → ⊥)
    → ((b : List ℕ) → TakesPhrase (IsSign 123) a b → ⊥)
    → (type_of s ≡ group no_types) × (r ≡ a)
content_of_none T s a r (front, inl h, whole) no_tuple no_fields = let k = takes_split (IsSign 40) (IsTupleRest T s) a r (front, h, whole) in absurd (no_tuple k.0 k.1)
content_of_none T s a r (front, inr (inl h), whole) no_tuple no_fields =
    let k = takes_split (IsSign 123) (IsFieldsRest T s) a r (front, h, whole) in absurd (no_fields k.0 k.1)
content_of_none T s a r (front, inr (inr (v, is, empty, none)), whole) no_tuple no_fields =
    (ap type_of is ∙ type_of_tuple v ∙ ap (λ ss. group (types_of ss)) empty, sym (whole ∙ ap (λ t. t ++ r) none))

-- A name goes on with no word, whatever content follows.
content_ends : (T : Types) (s : Schema) (a r : List ℕ) → TakesPhrase (IsContent T s) a r → GoesOnBy follows_variant r → EndsWord a
content_ends T s a r (front, inl h, whole) goes = let k = takes_split (IsSign 40) (IsTupleRest T s) a r (front, h, whole) in sign_ends_word 40 a k.0 refl k.1
content_ends T s a r (front, inr (inl h), whole) goes = let k = takes_split (IsSign 123) (IsFieldsRest T s) a r (front, h, whole) in sign_ends_word 123 a k.0 refl k.1
content_ends T s a r (front, inr (inr (v, is, empty, none)), whole) goes = subst EndsWord (sym (whole ∙ ap (λ t. t ++ r) none)) (goes_ends_word r goes)

-- The variant whose name is the word v that was taken.
pub record VariantFront (T : Types) (x : Named Schema) (v b r : List ℕ) : Type 0 where
  pub called : string_bytes x.name ≡ v
  pub named : IsVariantName v
  pub left : TakesPhrase (IsContent T x.content) b r

-- The word that was taken is the name of the variant that is next.
pub variant_front : (T : Types) (x : Named Schema) (a v b r : List ℕ) → WordTaken a v b → TakesPhrase (IsVariantText T x) a r
    → GoesOnBy follows_variant r → VariantFront T x v b r
variant_front T x a v b r taken (front, (named, h), whole) goes =
    let k = takes_split (IsWord (string_bytes x.name)) (IsContent T x.content) a r (front, h, whole) in
    let same = whole_word (string_bytes x.name) v a b k.0 named.0 taken k.1 (content_ends T x.content k.0 r k.2 goes) in
    record { called = same.0; named = subst IsVariantName same.0 named; left = subst (λ t. TakesPhrase (IsContent T x.content) t r) same.1 k.2 }

-- What is left of an enum where a variant is next.
pub record EnumLeft (T : Types) (done : List (Named Schema)) (leads : Bool) (s : Schema) (a r : List ℕ) : Type 0 where
  pub variants : Vec (Named Schema) Global
  pub is : type_of s ≡ choice (types_of (contents variants.items))
  pub differ : NamesDiffer variants.items
  pub many : leads ≡ false → 1 < length variants.items
  pub row : RowLeft (IsVariantText T) 124 SameNamed done variants.items a r

-- The same after a variant.
pub record EnumAfter (T : Types) (done : List (Named Schema)) (leads : Bool) (s : Schema) (a r : List ℕ) : Type 0 where
  pub variants : Vec (Named Schema) Global
  pub is : type_of s ≡ choice (types_of (contents variants.items))
  pub differ : NamesDiffer variants.items
  pub many : leads ≡ false → 1 < length variants.items
  pub row : RowAfter (IsVariantText T) 124 SameNamed done variants.items a r

-- After the leading `|` of an enum, or at its start if there is none, the first variant is next.
pub enum_begins : (T : Types) (leads : Bool) (s : Schema) (a b r : List ℕ) → TakesPhrase (IsEnumText T s) a r
    → (leads ≡ true → TakesPhrase (IsSign 124) a b) → (leads ≡ false → b ≡ a)
    → (leads ≡ false → (e : List ℕ) → TakesPhrase (IsSign 124) a e → ⊥) → EnumLeft T [] leads s b r
enum_begins T leads s a b r (front, (v, is, differ, h), whole) given same none =
    by leads given same none (takes_split (IsLead (length v.items)) (Separated (IsVariantText T) 124 v.items) a r (front, h, whole))
  where
    left : (l : Bool) → (l ≡ false → 1 < length v.items) → TakesPhrase (Separated (IsVariantText T) 124 v.items) b r → EnumLeft T [] l s b r
    left l many row = record { variants = v; is = ap type_of is ∙ type_of_enum v; differ = differ; many = many; row = record { before = []; more = v.items; whole = refl; alike = tt; left = row } }

    by : (l : Bool) → (l ≡ true → TakesPhrase (IsSign 124) a b) → (l ≡ false → b ≡ a) → (l ≡ false → (e : List ℕ) → TakesPhrase (IsSign 124) a e → ⊥)
        → (k : List ℕ) × TakesPhrase (IsLead (length v.items)) a k × TakesPhrase (Separated (IsVariantText T) 124 v.items) k r → EnumLeft T [] l s b r
    by true given same none (k, (f, inl sign, e), row) =
        left true (λ p. cc) (subst (λ t. TakesPhrase (Separated (IsVariantText T) 124 v.items) t r) (after_sign 124 a k b refl (f, sign, e) (given refl)) row)
    by true given same none (k, (f, inr (many, nothing), e), row) =
        let first = separated_first (IsVariantText T) 124 v.items k r row in
        let at : a ≡ k = e ∙ ap (λ t. t ++ k) nothing in
        absurd (starts_not_by is_ascii_uppercase 124 k b refl refl (variant_head T first.0 k first.2 first.4) (subst (λ t. TakesPhrase (IsSign 124) t b) at (given refl)))
    by false given same none (k, (f, inl sign, e), row) = absurd (none refl k (f, sign, e))
    by false given same none (k, (f, inr (many, nothing), e), row) =
        left false (λ p. many) (subst (λ t. TakesPhrase (Separated (IsVariantText T) 124 v.items) t r) (sym (same refl ∙ e ∙ ap (λ t. t ++ k) nothing)) row)

-- After the variant that is next comes `|`, or what may follow the enum.
next_variant_goes : (T : Types) (done : List (Named Schema)) (leads : Bool) (s : Schema) (a r : List ℕ) (h : EnumLeft T done leads s a r) (f : RowFront (IsVariantText T) 124 SameNamed done h.variants.items a r) → GoesOnBy follows_type r → GoesOnBy follows_variant f.rest
next_variant_goes T done leads s a r h f goes = row_follows (IsVariantText T) 124 follows_variant f.more f.rest r refl f.left (goes_variant r goes)

-- Where a variant is next, the text begins with one.
pub variant_begins : (T : Types) (done : List (Named Schema)) (leads : Bool) (s : Schema) (a r : List ℕ) → EnumLeft T done leads s a r
    → GoesOnBy follows_type r → HasFront (GoesOnBy follows_variant) (IsNew done (IsVariantText T)) a
variant_begins T done leads s a r h goes =
    let f = row_front (IsVariantText T) 124 SameNamed done h.variants.items a r h.row in
    (f.first, f.rest, row_new (IsVariantText T) 124 done h.variants.items a r h.differ f, next_variant_goes T done leads s a r h f goes)

-- What is left after the variant y.
pub enum_after : (T : Types) (done : List (Named Schema)) (leads : Bool) (s : Schema) (y : Named Schema) (a c r : List ℕ)
    → EnumLeft T done leads s a r → GoesOnBy follows_type r
    → IsOnlyFront SameNamed (GoesOnBy follows_variant) (IsNew done (IsVariantText T)) y a c → EnumAfter T (done ++ y ∷ []) leads s c r
enum_after T done leads s y a c r h goes one =
    let f = row_front (IsVariantText T) 124 SameNamed done h.variants.items a r h.row in
    let only = one f.first f.rest (row_new (IsVariantText T) 124 done h.variants.items a r h.differ f) (next_variant_goes T done leads s a r h f goes) in
    record {
      variants = h.variants;
      is = h.is;
      differ = h.differ;
      many = h.many;
      row = row_after (IsVariantText T) 124 SameNamed done h.variants.items y a c r f only.0 only.1;
    }

-- After a `|` a variant is next.
pub enum_bar : (T : Types) (done : List (Named Schema)) (leads : Bool) (s : Schema) (a c r : List ℕ) → EnumAfter T done leads s a r
    → GoesOnBy follows_type r → TakesPhrase (IsSign 124) a c → EnumLeft T done leads s c r
enum_bar T done leads s a c r h goes bar = elim (row_goes (IsVariantText T) 124 SameNamed done h.variants.items a c r refl h.row bar) [
  | inl ends ↦ absurd (not_next_type 124 r c refl refl goes (subst (λ t. TakesPhrase (IsSign 124) t c) ends.same bar))
  | inr row ↦ record { variants = h.variants; is = h.is; differ = h.differ; many = h.many; row = row }
]

-- Rows that are alike have the same length.
alike_length : (xs ys : List (Named Schema)) → Alike SameNamed xs ys → length xs ≡ length ys
alike_length [] [] h = refl
alike_length [] (v ∷ ys) h = absurd h
alike_length (u ∷ xs) [] h = absurd h
alike_length (u ∷ xs) (v ∷ ys) h = ap suc (alike_length xs ys h.1)

-- Without a `|` nothing is left.
pub record EnumEnd (done : List (Named Schema)) (leads : Bool) (s : Schema) (a r : List ℕ) : Type 0 where
  pub is : type_of s ≡ choice (types_of (contents done))
  pub same : r ≡ a
  pub many : leads ≡ false → 1 < length done

-- If no `|` follows a variant, the enum ends.
pub enum_end : (T : Types) (done : List (Named Schema)) (leads : Bool) (s : Schema) (a r : List ℕ) → EnumAfter T done leads s a r
    → ((c : List ℕ) → TakesPhrase (IsSign 124) a c → ⊥) → EnumEnd done leads s a r
enum_end T done leads s a r h none =
    let ends = row_ends (IsVariantText T) 124 SameNamed done h.variants.items a r h.row none in
    record {
      is = h.is ∙ ap choice (alike_contents h.variants.items done ends.alike);
      same = sym ends.same;
      many = λ p. subst (λ n. 1 < n) (alike_length h.variants.items done ends.alike) (h.many p);
    }

-- Where a variant is next, the text doesn't end.
pub enum_not_ended : (T : Types) (done : List (Named Schema)) (leads : Bool) (s : Schema) (r : List ℕ) → EnumLeft T done leads s [] r → ⊥
enum_not_ended T done leads s r h =
    let f = row_front (IsVariantText T) 124 SameNamed done h.variants.items [] r h.row in
    not_empty (variant_head T f.first [] f.rest f.taken).2

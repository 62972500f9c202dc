-- The first byte of a type, a variant and a field, after blanks.
-- Signs are bytes: 38 is `&`, 40 `(`, 60 `<`, 63 `?`, 91 `[`, 123 `{`, 124 `|`.
use Rattle.std.proofs.Common.{rules, ◌≡◌, ℕ, zero, suc, ◌<◌, nat_eq, Bool, true, false, Decides, ◌||◌, List, [], ◌∷◌, ◌++◌, length, string_bytes, refl, sym, ap, subst, ◌∙◌, true≢false, arith, ◌⊎◌, inl, inr}
use Rattle.std.specs.Prelude.{slice_index}
use Rattle.std.specs.Str.{IsTrimAsciiStart}
use Rattle.std.specs.Char.{is_ascii_uppercase, is_ascii_whitespace}
use Rattle.postcard_schema.specs.declared.schema.Named.{Named}
use Rattle.postcard_schema.specs.declared.schema.Schema.{Schema}
use Rattle.postcard_schema.specs.Lemmas.{type_of_option}
use Rattle.postcard_schema.specs.Meaning.{MessageType, option, type_of}
use Rattle.postcard_schema_text.specs.declared.names.TypeName.{TypeName}
use Rattle.postcard_schema_text.specs.declared.names.TypeName.TheVariants as names
use Rattle.postcard_schema_text.specs.Text.{unblank, Then, TakesPhrase, IsSign, IsWord, is_of_word}
use Rattle.postcard_schema_text.specs.Angled.{IsTypeName}
use Rattle.postcard_schema_text.specs.Grammar.{Separated, IsTupleRest, IsField, IsFieldsRest, IsAngledRest, IsNamedRest, IsWorded, IsPlain, IsReferenceRest, IsBehind, IsReferred, IsOptions, IsContent, IsVariantText, IsLead, IsEnumText, IsType}
use Rattle.postcard_schema_text.specs.Fronts.{Starts, StartsEnum, follows_name}
use Rattle.postcard_schema_text.specs.FrontLemmas.{trim_is, pass_head, sign_unblank, word_unblank, takes_split, same_first, not_empty}

-- The first byte of a word.
pub word_head : (w a r : List ℕ) → 0 < length w → TakesPhrase (IsWord w) a r → (t : List ℕ) × (unblank a ≡ slice_index w 0 ∷ t)
word_head [] a r filled h = absurd (omega (arith, filled))
word_head (x ∷ w) a r filled h = (w ++ r, word_unblank x w a r h)

-- A filled word begins with a letter, a digit or `_`.
pub word_starts : (w a r : List ℕ) → 0 < length w → TakesPhrase (IsWord w) a r → Starts is_of_word a
word_starts [] a r filled h = absurd (omega (arith, filled))
word_starts (x ∷ w) a r filled (front, (pass, led), whole) = (x, w ++ r, word_unblank x w a r (front, (pass, led), whole), pass_head is_of_word x w pass)

-- A word stands for one type at most, and an empty one for none.
pub one_name : (w : List ℕ) (k l : TypeName) → IsTypeName w k → IsTypeName w l → k ≡ l
one_name w k l h g = search rules

-- The name of a type isn't empty.
pub name_filled : (w : List ℕ) (k : TypeName) → IsTypeName w k → 0 < length w
name_filled w k h = search rules

or_left : (x y : Bool) → x ≡ true → x || y ≡ true
or_left x y e = rw e refl

-- After the name of a type it ends, or `<` comes.
pub name_end : (T : Schema → List ℕ → Type 0) (k : TypeName) (s : Schema) (b r : List ℕ) → TakesPhrase (IsNamedRest T k s) b r
    → (b ≡ r) ⊎ ((c : List ℕ) × TakesPhrase (IsSign 60) b c)
name_end T (names.Leaf leaf) s b r (front, (is, none), whole) = inl (whole ∙ ap (λ t. t ++ r) none)
name_end T (names.Angled kind) s b r h = let k = takes_split (IsSign 60) (IsAngledRest T kind s) b r h in inr (k.0, k.1)

-- The first byte of a type that begins with a word.
pub worded_head : (T : Schema → List ℕ → Type 0) (s : Schema) (a r : List ℕ) → TakesPhrase (IsWorded T s) a r → Starts is_of_word a
worded_head T s a r (front, (k, name, named, h), whole) =
    let m = takes_split (IsWord name) (IsNamedRest T k s) a r (front, h, whole) in
    word_starts name a m.0 (name_filled name k named) m.1

-- The first byte of a type that is no enum, with no `&` before it.
abbrev pub starts_plain : ℕ → Bool
starts_plain x = is_of_word x || (nat_eq x 91 || (nat_eq x 40 || nat_eq x 123))

-- A type that is no enum and has no `&` before it begins with one of these bytes.
pub plain_head : (T : Schema → List ℕ → Type 0) (s : Schema) (a r : List ℕ) → TakesPhrase (IsPlain T s) a r → Starts starts_plain a
plain_head T s a r (front, inl h, whole) = let head = worded_head T s a r (front, h, whole) in (head.0, head.1, head.2, or_left (is_of_word head.0) _ head.3)
plain_head T s a r (front, inr (inl h), whole) = let k = takes_split _ _ a r (front, h, whole) in (91, k.0, sign_unblank 91 a k.0 refl k.1, refl)
plain_head T s a r (front, inr (inr (inl h)), whole) = let k = takes_split _ _ a r (front, h, whole) in (40, k.0, sign_unblank 40 a k.0 refl k.1, refl)
plain_head T s a r (front, inr (inr (inr h)), whole) = let k = takes_split _ _ a r (front, h, whole) in (123, k.0, sign_unblank 123 a k.0 refl k.1, refl)

-- The first byte of a type that is no enum.
abbrev pub starts_referred : ℕ → Bool
starts_referred x = starts_plain x || nat_eq x 38

-- A type that is no enum begins with one of these bytes.
pub referred_head : (T : Schema → List ℕ → Type 0) (s : Schema) (a r : List ℕ) → TakesPhrase (IsReferred T s) a r → Starts starts_referred a
referred_head T s a r (front, (zero, h), whole) = let head = plain_head T s a r (front, h, whole) in (head.0, head.1, head.2, or_left (starts_plain head.0) _ head.3)
referred_head T s a r (front, (suc n, h), whole) =
    let k = takes_split (IsSign 38) (IsReferenceRest (IsBehind n T s)) a r (front, h, whole) in (38, k.0, sign_unblank 38 a k.0 refl k.1, refl)

-- A variant begins with a capital letter.
pub variant_head : (T : Schema → List ℕ → Type 0) (n : Named Schema) (a r : List ℕ) → TakesPhrase (IsVariantText T n) a r → Starts is_ascii_uppercase a
variant_head T n a r (front, (named, h), whole) =
    let k = takes_split _ _ a r (front, h, whole) in
    let head = word_head (string_bytes n.name) a k.0 named.0 k.1 in
    (slice_index (string_bytes n.name) 0, head.0, head.1, named.1)

-- A field begins with a byte of a word.
pub field_head : (T : Schema → List ℕ → Type 0) (n : Named Schema) (a r : List ℕ) → TakesPhrase (IsField T n) a r → Starts is_of_word a
field_head T n a r (front, (named, h), whole) =
    let k = takes_split _ _ a r (front, h, whole) in
    word_starts (string_bytes n.name) a k.0 named.0 k.1

-- What follows the first of a row: nothing, or the sign and the others.
abbrev pub After : {A : Type 0} → (A → List ℕ → Type 0) → ℕ → List A → List ℕ → List ℕ → Type 0
After P sign [] m r = m ≡ r
After P sign (u ∷ us) m r = (k : List ℕ) × TakesPhrase (IsSign sign) m k × TakesPhrase (Separated P sign (u ∷ us)) k r

-- A row is its first item and what follows it.
pub separated_first : {A : Type 0} (P : A → List ℕ → Type 0) (sign : ℕ) (ss : List A) (a r : List ℕ) → TakesPhrase (Separated P sign ss) a r
    → (x : A) × (more : List A) × (m : List ℕ) × (ss ≡ x ∷ more) × TakesPhrase (P x) a m × After P sign more m r
separated_first P sign [] a r (front, none, whole) = absurd none
separated_first P sign (x ∷ []) a r h = (x, [], r, refl, h, refl)
separated_first P sign (x ∷ u ∷ us) a r h =
    let first = takes_split (P x) (Then (IsSign sign) (Separated P sign (u ∷ us))) a r h in
    let second = takes_split (IsSign sign) (Separated P sign (u ∷ us)) first.0 r first.2 in
    (x, u ∷ us, first.0, refl, first.1, (second.0, second.1, second.2))

or_right : (x y : Bool) → y ≡ true → x || y ≡ true
or_right true y e = refl
or_right false y e = e

-- The first byte of an enum: `|` or a capital letter.
abbrev starts_enum : ℕ → Bool
starts_enum x = nat_eq x 124 || is_ascii_uppercase x

-- The text of an enum starts as one: with `|`, or with the name of a variant and the sign after it.
enum_head : (T : Schema → List ℕ → Type 0) (s : Schema) (a r : List ℕ) → TakesPhrase (IsEnumText T s) a r → Starts starts_enum a
enum_head T s a r (front, (v, is, differ, h), whole) = by_lead (takes_split _ _ a r (front, h, whole))
  where
    by_lead : (b : List ℕ) × TakesPhrase (λ t. IsLead (length v.items) t) a b × TakesPhrase (Separated (IsVariantText T) 124 v.items) b r → Starts starts_enum a
    by_lead (b, (f, inl sign, e), row) = (124, b, sign_unblank 124 a b refl (f, sign, e), refl)
    by_lead (b, (f, inr (many, none), e), row) =
        let first = separated_first (IsVariantText T) 124 v.items b r row in
        let head = variant_head T first.0 b first.2 first.4 in
        let same : a ≡ b = e ∙ ap (λ t. t ++ b) none in
        (head.0, head.1, ap unblank same ∙ head.2, or_right (nat_eq head.0 124) (is_ascii_uppercase head.0) head.3)

-- After the name of a variant that isn't the last one comes `|`, `(` or `{`.
content_starts : (T : Schema → List ℕ → Type 0) (s : Schema) (a m r : List ℕ) → TakesPhrase (IsContent T s) a m → TakesPhrase (IsSign 124) m r → Starts follows_name a
content_starts T s a m r (front, inl h, whole) bar =
    let k = takes_split (IsSign 40) (IsTupleRest T s) a m (front, h, whole) in (40, k.0, sign_unblank 40 a k.0 refl k.1, refl)
content_starts T s a m r (front, inr (inl h), whole) bar =
    let k = takes_split (IsSign 123) (IsFieldsRest T s) a m (front, h, whole) in (123, k.0, sign_unblank 123 a k.0 refl k.1, refl)
content_starts T s a m r (front, inr (inr (v, is, empty, none)), whole) bar =
    let same : a ≡ m = whole ∙ ap (λ t. t ++ m) none in (124, r, ap unblank same ∙ sign_unblank 124 m r refl bar, refl)

-- An enum begins as one.
pub enum_starts : (T : Schema → List ℕ → Type 0) (s : Schema) (a r : List ℕ) → TakesPhrase (IsEnumText T s) a r → StartsEnum a
enum_starts T s a r (front, (v, is, differ, h), whole) = by_lead (takes_split _ _ a r (front, h, whole))
  where
    by_variant : (x : Named Schema) (m j : List ℕ) → TakesPhrase (IsVariantText T x) a m → TakesPhrase (IsSign 124) m j → StartsEnum a
    by_variant x m j (f, (named, g), e) bar =
        let k = takes_split (IsWord (string_bytes x.name)) (IsContent T x.content) a m (f, g, e) in
        inr (string_bytes x.name, k.0, named, k.1, content_starts T x.content k.0 m j k.2 bar)

    by_more : (x : Named Schema) (more : List (Named Schema)) (m : List ℕ) → v.items ≡ x ∷ more → 1 < length v.items
        → TakesPhrase (IsVariantText T x) a m → After (IsVariantText T) 124 more m r → StartsEnum a
    by_more x [] m items many taken after = let one : length v.items ≡ 1 = ap length items in absurd (omega (arith, one, many))
    by_more x (u ∷ us) m items many taken (j, bar, row) = by_variant x m j taken bar

    by_lead : (b : List ℕ) × TakesPhrase (λ t. IsLead (length v.items) t) a b × TakesPhrase (Separated (IsVariantText T) 124 v.items) b r → StartsEnum a
    by_lead (b, (f, inl sign, e), row) = inl (b, (f, sign, e))
    by_lead (b, (f, inr (many, none), e), row) =
        let same : a ≡ b = e ∙ ap (λ t. t ++ b) none in
        let first = separated_first (IsVariantText T) 124 v.items a r (subst (λ t. TakesPhrase (Separated (IsVariantText T) 124 v.items) t r) (sym same) row) in
        by_more first.0 first.1 first.2 first.3 many first.4 first.5

-- A type in n options.
abbrev pub in_options : ℕ → MessageType → MessageType
in_options zero t = t
in_options (suc n) t = in_options n (option t)

-- One more option around `n` options makes `n + 1` of them.
in_option : (n : ℕ) (t : MessageType) → option (in_options n t) ≡ in_options (suc n) t
in_option zero t = refl
in_option (suc n) t = in_option n (option t)

-- The sign n times in a row.
abbrev pub Signs : ℕ → ℕ → List ℕ → List ℕ → Type 0
Signs sign zero a r = a ≡ r
Signs sign (suc n) a r = (m : List ℕ) × TakesPhrase (IsSign sign) a m × Signs sign n m r

-- Some signs of one kind, and one more at the end.
signs_more : (sign n : ℕ) (a b r : List ℕ) → Signs sign n a b → TakesPhrase (IsSign sign) b r → Signs sign (suc n) a r
signs_more sign zero a b r e h = (r, rw e h, refl)
signs_more sign (suc n) a b r (m, first, more) h = (m, first, signs_more sign n m b r more h)

-- Options are the type without `?`, and then each `?`.
pub options_split : (P : Schema → List ℕ → Type 0) (n : ℕ) (s : Schema) (a r : List ℕ) → TakesPhrase (IsOptions n P s) a r
    → (x : Schema) × (m : List ℕ) × TakesPhrase (P x) a m × (type_of s ≡ in_options n (type_of x)) × Signs 63 n m r
options_split P zero s a r h = (s, r, h, refl, refl)
options_split P (suc n) s a r (front, (b, is, h), whole) =
    let k = takes_split (IsOptions n P b.value) (IsSign 63) a r (front, h, whole) in
    let inside = options_split P n b.value a k.0 k.1 in (
      inside.0,
      inside.1,
      inside.2,
      ap type_of is ∙ type_of_option b ∙ ap option inside.3 ∙ in_option n (type_of inside.0),
      signs_more 63 n inside.1 k.0 r inside.4 k.2,
    )

-- The first byte of a type.
abbrev pub starts_type : ℕ → Bool
starts_type x = starts_referred x || starts_enum x

-- A type begins with one of these bytes.
pub type_head : (d : ℕ) (s : Schema) (a r : List ℕ) → TakesPhrase (IsType d s) a r → Starts starts_type a
unfolding IsType
type_head zero s a r (front, none, whole) = absurd none
type_head (suc d) s a r (front, inl h, whole) =
    let head = enum_head (IsType d) s a r (front, h, whole) in (head.0, head.1, head.2, or_right (starts_referred head.0) (starts_enum head.0) head.3)
type_head (suc d) s a r (front, inr (n, few, h), whole) =
    let split = options_split (IsReferred (IsType d)) n s a r (front, h, whole) in
    let head = referred_head (IsType d) split.0 a split.1 split.2 in
    (head.0, head.1, head.2, or_left (starts_referred head.0) (starts_enum head.0) head.3)

-- What begins with a byte that passes begins with no sign that doesn't.
pub starts_not_by : (passes : ℕ → Bool) (sign : ℕ) (a r : List ℕ) → is_ascii_whitespace sign ≡ false → passes sign ≡ false → Starts passes a
    → TakesPhrase (IsSign sign) a r → ⊥
starts_not_by passes sign a r black none (x, t, e, pass) h =
    let same = same_first (sym e ∙ sign_unblank sign a r black h) in
    true≢false (sym pass ∙ ap passes same ∙ none)

-- Whether the name of an enum's first variant ends here, by the first byte of the trimmed text.
pub name_if : (text trimmed : List ℕ) (first : ℕ) (after : List ℕ) (r : Bool) → IsTrimAsciiStart text trimmed → trimmed ≡ first ∷ after
    → r ≡ follows_name first → Decides r (Starts follows_name text)
name_if text trimmed first after r trim whole is =
    let here = sym (trim_is text trimmed trim) ∙ whole in
    (λ e. (first, after, here, sym is ∙ e), λ (x, t, e, pass). is ∙ ap follows_name (same_first (sym here ∙ e)) ∙ pass)

-- If only blanks are left, no `|`, `(` or `{` is next.
pub name_unless : (text trimmed : List ℕ) → IsTrimAsciiStart text trimmed → trimmed ≡ [] → Decides false (Starts follows_name text)
name_unless text trimmed trim none = (λ e. absurd (true≢false (sym e)), λ (x, t, e, pass). absurd (not_empty (sym none ∙ trim_is text trimmed trim ∙ e)))

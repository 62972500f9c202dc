-- What is left of a type with a sign after it, and of a list or an array after the element type.
-- Signs are bytes: 59 is `;`, 93 `]`.
use Rattle.std.proofs.Common.{◌≡◌, ℕ, true, List, refl, ap, ◌∙◌, subst, ◌⊎◌, inl, inr}
use Rattle.postcard_schema.specs.declared.schema.Schema.{Schema}
use Rattle.postcard_schema.specs.Meaning.{MessageType, seq, array, has_bytes, type_of}
use Rattle.postcard_schema_text.specs.Text.{Then, TakesPhrase, IsSign, IsCount, EndsWord, GoesOnBy}
use Rattle.postcard_schema_text.specs.Grammar.{IsEndedBy, IsListRest}
use Rattle.postcard_schema_text.specs.Fronts.{follows_type, HasFront, IsOnlyFront, SameType}
use Rattle.postcard_schema_text.specs.FrontLemmas.{takes_split, sign_ends_word}
use Rattle.postcard_schema.specs.Lemmas.{type_of_seq, type_of_array}
use Rattle.postcard_schema_text.proofs.Left.{after_sign, other_sign}

abbrev Types : Type 1
Types = Schema → List ℕ → Type 0

-- A type at the start of the text after which a sign follows.
pub front_by : (T : Types) (x : Schema) (sign : ℕ) (a m r : List ℕ) → follows_type sign ≡ true → TakesPhrase (T x) a m → TakesPhrase (IsSign sign) m r
    → HasFront (GoesOnBy follows_type) T a
front_by T x sign a m r pass h k = (x, m, h, inr (sign, r, pass, k))

-- A type with a sign after it begins with the type.
pub ended_begins : (T : Types) (sign : ℕ) (s : Schema) (a r : List ℕ) → follows_type sign ≡ true → TakesPhrase (IsEndedBy T sign s) a r
    → HasFront (GoesOnBy follows_type) T a
ended_begins T sign s a r pass h = let k = takes_split (T s) (IsSign sign) a r h in front_by T s sign a k.0 r pass k.1 k.2

-- After the type the sign is left.
pub ended_left : (T : Types) (sign : ℕ) (s x : Schema) (a c r : List ℕ) → follows_type sign ≡ true
    → IsOnlyFront SameType (GoesOnBy follows_type) T x a c → TakesPhrase (IsEndedBy T sign s) a r
    → (type_of s ≡ type_of x) × TakesPhrase (IsSign sign) c r
ended_left T sign s x a c r pass one h =
    let k = takes_split (T s) (IsSign sign) a r h in
    let only = one s k.0 k.1 (inr (sign, r, pass, k.2)) in
    (only.0, subst (λ t. TakesPhrase (IsSign sign) t r) only.1 k.2)

-- After a `[`, the element type is next.
pub list_begins : (T : Types) (s : Schema) (a r : List ℕ) → TakesPhrase (IsListRest T s) a r → HasFront (GoesOnBy follows_type) T a
list_begins T s a r (front, inl (b, is, full, h), whole) = let k = takes_split (T b.value) (IsSign 93) a r (front, h, whole) in front_by T b.value 93 a k.0 r refl k.1 k.2
list_begins T s a r (front, inr (b, n, is, full, h), whole) =
    let k = takes_split (T b.value) (Then (IsSign 59) (Then (IsCount n) (IsSign 93))) a r (front, h, whole) in
    let l = takes_split (IsSign 59) (Then (IsCount n) (IsSign 93)) k.0 r k.2 in
    front_by T b.value 59 a k.0 l.0 refl k.1 l.1

-- What is left after the element type.
pub record ListLeft (s : Schema) (e : MessageType) (c r : List ℕ) : Type 0 where
  pub full : has_bytes e ≡ true
  pub left : ((type_of s ≡ seq e) × TakesPhrase (IsSign 93) c r)
      ⊎ ((n : ℕ) × (m : List ℕ) × (k : List ℕ) × (type_of s ≡ array n e) × TakesPhrase (IsSign 59) c m × TakesPhrase (IsCount n) m k × TakesPhrase (IsSign 93) k r)

-- Once the element type is taken, the rest of the list or the array is left.
pub list_left : (T : Types) (s e : Schema) (a c r : List ℕ) → IsOnlyFront SameType (GoesOnBy follows_type) T e a c → TakesPhrase (IsListRest T s) a r
    → ListLeft s (type_of e) c r
list_left T s e a c r one (front, inl (b, is, full, h), whole) =
    let k = takes_split (T b.value) (IsSign 93) a r (front, h, whole) in
    let only = one b.value k.0 k.1 (inr (93, r, refl, k.2)) in
    record { full = subst (λ t. has_bytes t ≡ true) only.0 full; left = inl (ap type_of is ∙ type_of_seq b ∙ ap seq only.0, subst (λ t. TakesPhrase (IsSign 93) t r) only.1 k.2) }
list_left T s e a c r one (front, inr (b, n, is, full, h), whole) =
    let k = takes_split (T b.value) (Then (IsSign 59) (Then (IsCount n) (IsSign 93))) a r (front, h, whole) in
    let l = takes_split (IsSign 59) (Then (IsCount n) (IsSign 93)) k.0 r k.2 in
    let m = takes_split (IsCount n) (IsSign 93) l.0 r l.2 in
    let only = one b.value k.0 k.1 (inr (59, l.0, refl, l.1)) in
    record {
      full = subst (λ t. has_bytes t ≡ true) only.0 full;
      left = inr (n, l.0, m.0, ap type_of is ∙ type_of_array b n ∙ ap (array n) only.0, subst (λ t. TakesPhrase (IsSign 59) t l.0) only.1 l.1, m.1, m.2);
    }

-- After a `;` a count and `]` are left.
pub array_left : (s : Schema) (e : MessageType) (c d r : List ℕ) → ListLeft s e c r → TakesPhrase (IsSign 59) c d
    → (n : ℕ) × (k : List ℕ) × (type_of s ≡ array n e) × TakesPhrase (IsCount n) d k × TakesPhrase (IsSign 93) k r × EndsWord k
array_left s e c d r h semicolon = elim h.left [
  | inl (is, close) ↦ absurd (other_sign 93 59 c r d refl refl refl close semicolon)
  | inr (n, m, k, is, sign, count, close) ↦ (n, k, is, subst (λ t. TakesPhrase (IsCount n) t k) (after_sign 59 c m d refl sign semicolon) count, close, sign_ends_word 93 k r refl close)
]

-- Without a `;` a `]` is left.
pub seq_left : (s : Schema) (e : MessageType) (c r : List ℕ) → ListLeft s e c r → ((d : List ℕ) → TakesPhrase (IsSign 59) c d → ⊥)
    → (type_of s ≡ seq e) × TakesPhrase (IsSign 93) c r
seq_left s e c r h none = elim h.left [
  | inl h ↦ h
  | inr (n, m, k, is, sign, count, close) ↦ absurd (none m sign)
]

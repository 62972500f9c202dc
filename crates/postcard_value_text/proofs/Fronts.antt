-- What is at the start of a text of the grammar of values: numbers, words, signs and empty phrases, and what may follow them.
use Rattle.std.proofs.Common.{◌≡◌, ◌≢◌, ℕ, zero, suc, ◌<◌, Bool, true, false, cond, List, [], ◌∷◌, ◌++◌, length, get_or, drop, codes, refl, sym, ap, subst, ◌∙◌, true≢false, arith, inl, inr}
use Rattle.std.proofs.lemmas.Bool.Decides.{nat_tests}
use Rattle.std.proofs.lemmas.List.{append_assoc}
use Rattle.std.proofs.lemmas.List.Elements.{All-cons}
use Rattle.std.proofs.lemmas.List.Sums.{AllPass-from_list_all}
use Rattle.std.specs.Bool.{◌==◌}
use Rattle.std.specs.Char.{is_ascii_whitespace}
use Rattle.std.specs.List.{AllPass}
use Rattle.std.specs.Prelude.{ℤ, slice_index}
use Rattle.std.specs.Str.{IsTrimAsciiStart}
use Rattle.std.specs.Str.Parse.{without_leading_plus, without_leading_sign}
use Rattle.postcard_schema_text.specs.Text.{unblank, is_of_word, Led, TakesPhrase, IsSign, EndsWord, IsMaybe}
use Rattle.postcard_schema_text.specs.Fronts.{follows_type}
use Rattle.postcard_schema_text.specs.FrontLemmas.{trim_is, pass_head, pass_tail, unblank_more, unblank_black, same_first, same_rest, sign_unblank}
use Rattle.postcard_schema_text.proofs.Left.{goes_variant, goes_ends_word, not_next_type}
use Rattle.postcard_schema_text.specs.LiteralLemmas.{literal_bytes, literal_some}
use Rattle.postcard_schema.specs.declared.leaf.Integer.{Integer}
use Rattle.postcard_schema_text.specs.Phrases.{takes_as}
use Rattle.postcard_value_text.specs.{FollowsValue, HasBits, IsLiteral, IsSigned, IsUnsigned}
use Rattle.postcard_value_text.specs.Floats.{is_of_float, EndsNumber, EndsFloat}
use Rattle.postcard_value_text.specs.Spelled.{Phrase, IsTruth}

-- ---- what follows a value

follows_other : (b : ℕ) → follows_type b ≡ true → is_of_float b ≡ false
follows_other b h = grind (arith, nat_tests, h)

-- A blank is no byte of a number.
pub blank_other : (b : ℕ) → is_ascii_whitespace b ≡ true → is_of_float b ≡ false
blank_other b h = grind (arith, nat_tests, h)

-- What may follow a value doesn't go on with a number.
pub goes_number : (a : List ℕ) → FollowsValue a → EndsNumber a
goes_number [] goes = tt
goes_number (b ∷ a) (inl blank) = blank_other b (pass_head is_ascii_whitespace b a blank)
goes_number (b ∷ a) (inr (sign, after, pass, (front, ([], phrase, blank, is, e), whole))) =
    let first : b ≡ sign = same_first (whole ∙ ap (λ t. t ++ after) (e ∙ is)) in
    rw first (follows_other sign pass)
goes_number (b ∷ a) (inr (sign, after, pass, (front, (x ∷ blanks, phrase, blank, is, e), whole))) =
    let first : b ≡ x = same_first (whole ∙ ap (λ t. t ++ after) e) in
    rw first (blank_other x (pass_head is_ascii_whitespace x blanks blank))

-- What may follow a value doesn't go on with a word.
pub goes_word : (a : List ℕ) → FollowsValue a → EndsWord a
goes_word a goes = goes_ends_word a (goes_variant a goes)

-- What may follow a value doesn't go on with a float.
pub goes_float : (a : List ℕ) → FollowsValue a → EndsFloat a
goes_float a goes = (goes_number a goes, λ after h. not_next_type 40 a after refl refl goes h)

-- A sign that may follow, after blanks or none.
pub sign_follows : (sign : ℕ) (a r : List ℕ) → follows_type sign ≡ true → TakesPhrase (IsSign sign) a r → FollowsValue a
sign_follows sign a r pass h = inr (sign, r, pass, h)

-- ---- numbers and bools

scalar_black : (x : ℕ) → is_of_float x ≡ true → is_ascii_whitespace x ≡ false
scalar_black x h = grind (arith, nat_tests, h)

scalar_first : (w r : List ℕ) → AllPass is_of_float w → 0 < length w → unblank (w ++ r) ≡ w ++ r
scalar_first [] r pass some = absurd (omega (arith, some))
scalar_first (x ∷ w) r pass some = unblank_black x (w ++ r) (scalar_black x (pass_head is_of_float x w pass))

-- A phrase of P is at the start of b.
pub record ScalarFront (P : Phrase) (b after : List ℕ) : Type 0 where
  pub word : List ℕ
  pub is : P word
  pub all : AllPass is_of_float word
  pub whole : b ≡ word ++ after

-- A phrase of bytes of numbers, at least one.
unfoldable pub AreScalars : Phrase → Type 0
AreScalars P = (word : List ℕ) → P word → (0 < length word) × AllPass is_of_float word

-- The first bytes after blanks are the phrase.
pub scalar_after_blanks : (P : Phrase) (a after : List ℕ) → AreScalars P → TakesPhrase (Led P) a after
    → (word : List ℕ) × P word × (0 < length word) × AllPass is_of_float word × (unblank a ≡ word ++ after)
unfolding AreScalars
scalar_after_blanks P a after each (front, (blanks, word, blank, p, e), whole) =
    let k = each word p in
    let all : a ≡ blanks ++ (word ++ after) = whole ∙ ap (λ t. t ++ after) e ∙ append_assoc blanks word after in
    (word, p, k.0, k.1, ap unblank all ∙ unblank_more blanks (word ++ after) blank ∙ scalar_first word after k.1 k.0)

-- A number or a `bool` that begins a text is its next word.
pub scalar_front : (P : Phrase) (a b after : List ℕ) → AreScalars P → IsTrimAsciiStart a b → TakesPhrase (Led P) a after → ScalarFront P b after
scalar_front P a b after each trim h =
    let k = scalar_after_blanks P a after each h in
    record { word = k.0; is = k.1; all = k.3; whole = trim_is a b trim ∙ k.4 }

-- A phrase of them that comes after blanks comes without these, too.
pub scalar_trimmed : (P : Phrase) (a b after : List ℕ) → AreScalars P → IsTrimAsciiStart a b → TakesPhrase (Led P) a after → TakesPhrase (Led P) b after
scalar_trimmed P a b after each trim h =
    let k = scalar_front P a b after each trim h in
    (k.word, ([], k.word, (λ i d low. absurd (omega (arith, low))), k.is, refl), k.whole)

-- The bytes of a number that were taken after blanks are a phrase of P if they have it.
pub scalar_led : (P : Phrase) (a word left : List ℕ) → TakesPhrase (Led (λ w. w ≡ word)) a left → P word → TakesPhrase (Led P) a left
scalar_led P a word left (front, (blanks, phrase, blank, is, e), whole) p = (front, (blanks, phrase, blank, subst P (sym is) p, e), whole)

-- Two numbers in a text are the same if none goes on.
pub one_number : (w v r q : List ℕ) → AllPass is_of_float w → AllPass is_of_float v → EndsNumber r → EndsNumber q → w ++ r ≡ v ++ q
    → (w ≡ v) × (r ≡ q)
one_number [] [] r q f g h k e = (refl, e)
one_number [] (y ∷ v) r q f g h k e = absurd (true≢false (sym (pass_head is_of_float y v g) ∙ subst EndsNumber e h))
one_number (x ∷ w) [] r q f g h k e = absurd (true≢false (sym (pass_head is_of_float x w f) ∙ subst EndsNumber (sym e) k))
one_number (x ∷ w) (y ∷ v) r q f g h k e =
    let rest = one_number w v r q (pass_tail is_of_float x w f) (pass_tail is_of_float y v g) h k (same_rest e) in
    (ap (λ z. z ∷ w) (same_first e) ∙ ap (λ z. y ∷ z) rest.0, rest.1)

-- The bytes of a number that are next are the phrase.
pub scalar_taken : (P : Phrase) (a after word left : List ℕ) → AreScalars P → TakesPhrase (Led P) a after → EndsNumber after → AllPass is_of_float word → EndsNumber left
    → ((trimmed : List ℕ) × IsTrimAsciiStart a trimmed × (trimmed ≡ word ++ left)) → P word × (left ≡ after)
scalar_taken P a after word left each h ends all over (trimmed, trim, is) =
    let k = scalar_front P a trimmed after each trim h in
    let same = one_number k.word word after left k.all all ends over (sym k.whole ∙ is) in
    (subst P same.0 k.is, sym same.1)

word_scalar : (b : ℕ) → is_of_word b ≡ true → is_of_float b ≡ true
word_scalar b h = grind (arith, nat_tests, h)

literal_scalar : (n : ℕ) (w : List ℕ) → IsLiteral n w → AllPass is_of_float w
literal_scalar n w is = λ k d inside. word_scalar (get_or w k d) (literal_bytes n w is k d inside)

-- A sign before a number, or the first byte of it.
after_plus : (x : ℕ) (w : List ℕ) (plus : Bool) → (plus ≡ true → is_of_float x ≡ true) → AllPass is_of_float (drop (cond plus 1 0) (x ∷ w)) → AllPass is_of_float (x ∷ w)
after_plus x w true first h = All-cons (λ b. is_of_float b ≡ true) x w (first refl) h
after_plus x w false first h = h

plus_scalar : (x : ℕ) → x == 43 ≡ true → is_of_float x ≡ true
plus_scalar x h = grind (arith, nat_tests, h)

minus_scalar : (x : ℕ) → x == 45 ≡ true → is_of_float x ≡ true
minus_scalar x h = grind (arith, nat_tests, h)

dropped_none : (n : ℕ) → length (drop {A = ℕ} n []) ≡ 0
dropped_none zero = refl
dropped_none (suc n) = refl

unsigned_scalars : (n : ℕ) → AreScalars (IsUnsigned n)
unfolding AreScalars
unsigned_scalars n [] is = absurd (omega (arith, literal_some n (without_leading_plus []) is, dropped_none (cond (slice_index [] 0 == 43) 1 0)))
unsigned_scalars n (x ∷ w) is = (omega arith, after_plus x w (x == 43) (plus_scalar x) (literal_scalar n (without_leading_plus (x ∷ w)) is))

after_sign : (x : ℕ) (w : List ℕ) (minus : Bool) → (minus ≡ true → is_of_float x ≡ true)
    → AllPass is_of_float (cond minus (drop 1 (x ∷ w)) (without_leading_plus (x ∷ w))) → AllPass is_of_float (x ∷ w)
after_sign x w true first h = All-cons (λ b. is_of_float b ≡ true) x w (first refl) h
after_sign x w false first h = after_plus x w (x == 43) (plus_scalar x) h

signed_scalars : (z : ℤ) → AreScalars (IsSigned z)
unfolding AreScalars
signed_scalars z [] (n, is, e) = absurd (omega (arith, literal_some n (without_leading_sign []) is))
signed_scalars z (x ∷ w) (n, is, e) = (omega arith, after_sign x w (x == 45) (minus_scalar x) (literal_scalar n (without_leading_sign (x ∷ w)) is))

pub bits_scalars : (signed : Bool) (i : Integer) (n : ℕ) → AreScalars (HasBits signed i n)
unfolding AreScalars
bits_scalars true i n word (z, bits, is) = signed_scalars z word is
bits_scalars false i n word (low, is) = unsigned_scalars n word is

pub truth_scalars : (x : Bool) → AreScalars (IsTruth x)
unfolding AreScalars
truth_scalars true word is = rw is (omega arith, AllPass-from_list_all is_of_float (codes "true") refl)
truth_scalars false word is = rw is (omega arith, AllPass-from_list_all is_of_float (codes "false") refl)

-- ---- words and signs

-- What is left of a text after a sign.
pub one_rest : (sign : ℕ) (text a b : List ℕ) → is_ascii_whitespace sign ≡ false → TakesPhrase (IsSign sign) text a → TakesPhrase (IsSign sign) text b → a ≡ b
one_rest sign text a b black first second = same_rest (sym (sign_unblank sign text a black first) ∙ sign_unblank sign text b black second)

-- Two different signs are not both at one place.
pub other_sign : (x y : ℕ) (text a b : List ℕ) → is_ascii_whitespace x ≡ false → is_ascii_whitespace y ≡ false → x ≢ y → TakesPhrase (IsSign x) text a → TakesPhrase (IsSign y) text b → ⊥
other_sign x y text a b black dark differ first second = differ (same_first (sym (sign_unblank x text a black first) ∙ sign_unblank y text b dark second))

-- ---- a sign that may be left out, and empty phrases

-- An empty phrase takes nothing.
pub takes_none : (a : List ℕ) → TakesPhrase (λ text. text ≡ []) a a
takes_none a = ([], refl, refl)

pub none_taken : (a b : List ℕ) → TakesPhrase (λ text. text ≡ []) a b → a ≡ b
none_taken a b (front, none, whole) = whole ∙ ap (λ t. t ++ b) none

-- A `,`, or none, is taken.
pub maybe_taken : (taken : Bool) (a b : List ℕ) → (taken ≡ true → TakesPhrase (IsSign 44) a b) → (taken ≡ false → b ≡ a) → TakesPhrase (IsMaybe 44) a b
maybe_taken true a b sign none = takes_as (IsSign 44) (IsMaybe 44) a b (λ t k. inr k) (sign refl)
maybe_taken false a b sign none = ([], inl refl, sym (none refl))

-- A `,` that may stand before a closing bracket was taken if it was there.
pub maybe_left : (taken : Bool) (closing : ℕ) (a b m r : List ℕ) → is_ascii_whitespace closing ≡ false → closing ≢ 44 → TakesPhrase (IsMaybe 44) a m → TakesPhrase (IsSign closing) m r
    → (taken ≡ true → TakesPhrase (IsSign 44) a b) → (taken ≡ false → b ≡ a) → (taken ≡ false → (x : List ℕ) → TakesPhrase (IsSign 44) a x → ⊥) → TakesPhrase (IsSign closing) b r
maybe_left true closing a b m r black differs (front, inl none, whole) close took kept never =
    absurd (other_sign closing 44 a r b black refl differs (subst (λ t. TakesPhrase (IsSign closing) t r) (sym (none_taken a m (front, none, whole))) close) (took refl))
maybe_left true closing a b m r black differs (front, inr sign, whole) close took kept never =
    subst (λ t. TakesPhrase (IsSign closing) t r) (one_rest 44 a m b refl (front, sign, whole) (took refl)) close
maybe_left false closing a b m r black differs (front, inl none, whole) close took kept never =
    subst (λ t. TakesPhrase (IsSign closing) t r) (sym (none_taken a m (front, none, whole)) ∙ sym (kept refl)) close
maybe_left false closing a b m r black differs (front, inr sign, whole) close took kept never = absurd (never refl m (front, sign, whole))

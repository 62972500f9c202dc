-- Lemmas on the digits of a literal, with a `_` anywhere among them.
use Rattle.std.proofs.Common.{◌≡◌, ◌≢◌, ℕ, ◌+◌, ◌*◌, ◌^◌, ◌<◌, ◌≤◌, Bool, true, false, cond, ◌||◌, ◌⊎◌, List, [], ◌∷◌, length, get_or, refl, subst, eqb-true, le-mul_of_pos_right, arith, inl, inr}
use Rattle.std.proofs.lemmas.Bool.Decides.{nat_tests}
use Rattle.std.specs.Char.{digit_value, is_digit}
use Rattle.std.specs.List.{AllPass}
use Rattle.std.specs.Prelude.{Result, Ok, Err, IfErr}
use Rattle.std.specs.Str.Parse.{AllDigits, digits_value_after}
use Rattle.postcard_schema_text.specs.declared.literal.LiteralError.{LiteralError}
use Rattle.postcard_schema_text.specs.declared.literal.LiteralError.TheVariants.{Malformed, TooLarge}
use Rattle.postcard_schema_text.specs.Literals.{is_underscore, without_underscores, AreDigits, radix_of, IsLiteral, IsNoNumber, with_byte, is_of_digits}
use Rattle.postcard_schema_text.specs.FrontLemmas.{pass_head, pass_tail, WordTaken, same_word}
use Rattle.postcard_schema_text.specs.LiteralLemmas.{pass_cons, of_digits, marked_is, plain_is, literal_bytes, literal_some}
use Rattle.postcard_schema_text.specs.Text.{TakesPhrase, EndsWord, IsCount}

-- A byte that is a digit or a `_`, and no `_`, is a digit.
digit_or : (radix b : ℕ) → is_of_digits radix b ≡ true → is_underscore b ≡ false → digit_value b < radix
digit_or radix b h e = let k : is_digit b radix ≡ true = subst (λ x. x || is_digit b radix ≡ true) e h in grind (arith, nat_tests, k)

-- Digits and `_` are digits without the `_`.
pub digits_left : (radix : ℕ) (bs : List ℕ) → AllPass (is_of_digits radix) bs → AllDigits radix (without_underscores bs)
digits_left radix [] all = tt
digits_left radix (b ∷ bs) all = by (is_underscore b) refl (digits_left radix bs (pass_tail (is_of_digits radix) b bs all))
  where
    by : (x : Bool) → is_underscore b ≡ x → AllDigits radix (without_underscores bs) → AllDigits radix (cond x (without_underscores bs) (b ∷ without_underscores bs))
    by true e rest = rest
    by false e rest = (digit_or radix b (pass_head (is_of_digits radix) b bs all) e, rest)

-- Without the `_` nothing is left of a text just if it has no other bytes.
pub none_left : (bs : List ℕ) → AllPass is_underscore bs → 0 < length (without_underscores bs) → ⊥
none_left [] all some = omega (arith, some)
none_left (b ∷ bs) all some =
    let e = pass_head is_underscore b bs all in
    none_left bs (pass_tail is_underscore b bs all) (subst (λ x. 0 < length (cond x (without_underscores bs) (b ∷ without_underscores bs))) e some)

-- If not all bytes are `_`, something is left without them.
pub some_left : (bs : List ℕ) → (AllPass is_underscore bs → ⊥) → 0 < length (without_underscores bs)
some_left [] none = absurd (none (λ k d inside. absurd (omega (arith, inside))))
some_left (b ∷ bs) none = by (is_underscore b) refl (some_left bs)
  where
    by : (x : Bool) → is_underscore b ≡ x → ((AllPass is_underscore bs → ⊥) → 0 < length (without_underscores bs))
        → 0 < length (cond x (without_underscores bs) (b ∷ without_underscores bs))
    by true e rest = rest (λ all. none (pass_cons is_underscore b bs e all))
    by false e rest = omega arith

-- Each byte is a `_` or a digit.
pub digit_at : (radix : ℕ) (bs : List ℕ) (i : ℕ) → AllDigits radix (without_underscores bs) → i < length bs → (get_or bs i 0 ≡ 95) ⊎ (digit_value (get_or bs i 0) < radix)
digit_at radix bs i all inside = by (is_underscore (get_or bs i 0)) refl
  where
    by : (x : Bool) → is_underscore (get_or bs i 0) ≡ x → (get_or bs i 0 ≡ 95) ⊎ (digit_value (get_or bs i 0) < radix)
    by true e = inl (eqb-true (get_or bs i 0) 95 e)
    by false e = inr (digit_or radix (get_or bs i 0) (of_digits radix bs all i 0 inside) e)

-- The number that n and further digits denote, from n and the first of these digits.
pub value_more : (radix n b : ℕ) (bs : List ℕ) → digits_value_after radix n (without_underscores (b ∷ bs)) ≡ digits_value_after radix (with_byte radix n b) (without_underscores bs)
value_more radix n b bs = by (is_underscore b)
  where
    by : (x : Bool) → digits_value_after radix n (cond x (without_underscores bs) (b ∷ without_underscores bs)) ≡ digits_value_after radix (cond x n (n * radix + digit_value b)) (without_underscores bs)
    by true = refl
    by false = refl

-- More digits make a number no smaller.
pub value_grows : (radix n : ℕ) (ds : List ℕ) → 1 ≤ radix → n ≤ digits_value_after radix n ds
value_grows radix n [] some = omega arith
value_grows radix n (d ∷ ds) some =
    let more = value_grows radix (n * radix + digit_value d) ds some in
    omega (arith, more, le-mul_of_pos_right n some)

-- A word that is no number of one kind is none of an equal kind.
no_number_as : (P Q : ℕ → Type 0) → ((n : ℕ) → P n → Q n) → ((n : ℕ) → Q n → P n) → (e : LiteralError) → IsNoNumber P e → IsNoNumber Q e
no_number_as P Q to from Malformed none = λ n h. none n (from n h)
no_number_as P Q to from TooLarge (n, h, large) = (n, to n h, large)

-- The same of a result that may be a number.
refused_as : {T : Type 0} (P Q : ℕ → Type 0) → ((n : ℕ) → P n → Q n) → ((n : ℕ) → Q n → P n) → (r : Result T LiteralError) → IfErr r (IsNoNumber P)
    → IfErr r (IsNoNumber Q)
refused_as P Q to from (Ok x) h = tt
refused_as P Q to from (Err e) h = no_number_as P Q to from e h

-- Why a literal with a letter, or without one, is refused.
pub marked_refused : {T : Type 0} (letter : ℕ) (digits text : List ℕ) (r : Result T LiteralError) → text ≡ 48 ∷ letter ∷ digits → 2 ≤ radix_of letter
    → IfErr r (λ e. IsNoNumber (λ n. AreDigits (radix_of letter) n digits) e) → IfErr r (λ e. IsNoNumber (λ n. IsLiteral n text) e)
marked_refused letter digits text r is low h = refused_as _ _ (λ n d. inr (letter, digits, d, is)) (λ n l. marked_is n letter digits text is low l) r h

-- A word that has no letter of a radix and doesn't begin with `_` can only be decimal digits. If it is refused as such, it is no literal.
pub plain_refused : {T : Type 0} (text : List ℕ) (r : Result T LiteralError)
    → ((letter : ℕ) (digits : List ℕ) → text ≡ 48 ∷ letter ∷ digits → radix_of letter ≡ 0) → get_or text 0 0 ≢ 95
    → IfErr r (λ e. IsNoNumber (λ n. AreDigits 10 n text) e) → IfErr r (λ e. IsNoNumber (λ n. IsLiteral n text) e)
plain_refused text r none first h = refused_as _ _ (λ n d. inl (first, d)) (λ n l. (plain_is n text none l).1) r h

-- The next word, if a count is next.
pub record CountOf (n : ℕ) (word after rest : List ℕ) : Type 0 where
  pub says : IsLiteral n word
  pub low : n < 2 ^ 64
  pub left : rest ≡ after

-- The word that was taken is the one that denotes the count.
pub count_of : (n : ℕ) (text word after rest : List ℕ) → WordTaken text word after → TakesPhrase (IsCount n) text rest → EndsWord rest → CountOf n word after rest
count_of n text word after rest taken (front, ([], says, low, led), whole) ends = let some = literal_some n [] says in absurd (omega (arith, some))
count_of n text word after rest taken (front, (x ∷ ds, says, low, led), whole) ends =
    let same = same_word x ds word text after rest taken (front, (literal_bytes n (x ∷ ds) says, led), whole) ends in
    record { says = subst (IsLiteral n) same.0 says; low = low; left = same.1 }

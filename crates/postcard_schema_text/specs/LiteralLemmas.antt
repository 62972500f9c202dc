-- Lemmas on literals: a text denotes one number at most, in bytes of a word, and which one.
use Rattle.std.proofs.Common.{◌≡◌, ℕ, zero, suc, ◌<◌, ◌≤◌, Bool, true, false, cond, List, [], ◌∷◌, length, get_or, refl, sym, ap, subst, ◌∙◌, true≢false, arith, ◌⊎◌, inl, inr}
use Rattle.std.proofs.lemmas.Bool.Decides.{nat_tests}
use Rattle.std.specs.Char.{is_digit}
use Rattle.std.specs.List.{AllPass}
use Rattle.std.specs.Str.Parse.{AllDigits, IsNumeral}
use Rattle.postcard_schema_text.specs.Literals.{is_underscore, without_underscores, AreDigits, IsDecimal, radix_of, IsLiteral, is_of_digits}
use Rattle.postcard_schema_text.specs.Text.{is_of_word}
use Rattle.postcard_schema_text.specs.FrontLemmas.{same_first, same_rest}

-- All bytes pass a test if the first and the remaining ones do.
pub pass_cons : (p : ℕ → Bool) (b : ℕ) (bs : List ℕ) → p b ≡ true → AllPass p bs → AllPass p (b ∷ bs)
pass_cons p b bs h all zero d inside = h
pass_cons p b bs h all (suc k) d inside = all k d (omega (arith, inside))

-- What is digits without its `_` is digits and `_`.
pub of_digits : (radix : ℕ) (bs : List ℕ) → AllDigits radix (without_underscores bs) → AllPass (is_of_digits radix) bs
of_digits radix [] all = λ k d inside. absurd (omega (arith, inside))
of_digits radix (b ∷ bs) all = by (is_underscore b) refl all (of_digits radix bs)
  where
    by : (x : Bool) → is_underscore b ≡ x → AllDigits radix (cond x (without_underscores bs) (b ∷ without_underscores bs))
        → (AllDigits radix (without_underscores bs) → AllPass (is_of_digits radix) bs) → AllPass (is_of_digits radix) (b ∷ bs)
    by true e h rest = pass_cons (is_of_digits radix) b bs (rw e refl) (rest h)
    by false e h rest =
        let low = h.0 in
        let digit : is_digit b radix ≡ true = grind (arith, nat_tests, low) in
        pass_cons (is_of_digits radix) b bs (rw e digit) (rest h.1)

-- The radix 0 has no digits.
no_digits : (ds : List ℕ) → IsNumeral 0 ds → ⊥
no_digits [] (some, all) = omega (arith, some)
no_digits (d ∷ ds) (some, all) = omega (arith, all.0)

-- A radix with a number is at least 2.
radix_or : (radix : ℕ) (ds : List ℕ) → (radix ≡ 0) ⊎ (2 ≤ radix) → IsNumeral radix ds → 2 ≤ radix
radix_or radix ds (inl e) numeral = absurd (no_digits ds (subst (λ r. IsNumeral r ds) e numeral))
radix_or radix ds (inr low) numeral = low

-- A letter stands for no radix, or for one of at least 2.
radixes : (letter : ℕ) → (radix_of letter ≡ 0) ⊎ (2 ≤ radix_of letter)
radixes letter = grind (arith, nat_tests)

-- A letter stands for a radix of at most 16.
most : (letter : ℕ) → radix_of letter ≤ 16
most letter = grind (arith, nat_tests)

-- A letter that stands for a radix is no decimal digit.
no_decimal : (letter : ℕ) → 2 ≤ radix_of letter → is_of_digits 10 letter ≡ false
no_decimal letter low = grind (arith, nat_tests, low)

-- A literal with a letter that stands for a radix has digits of that radix.
pub marked_is : (n letter : ℕ) (digits text : List ℕ) → text ≡ 48 ∷ letter ∷ digits → 2 ≤ radix_of letter → IsLiteral n text → AreDigits (radix_of letter) n digits
marked_is n letter digits text is low (inl (first, ((some, all), e))) =
    let pass = subst (AllPass (is_of_digits 10)) is (of_digits 10 text all) in
    let digit : is_of_digits 10 letter ≡ true = pass 1 0 (omega arith) in
    absurd (true≢false (sym digit ∙ no_decimal letter low))
marked_is n letter digits text is low (inr (other, ds, h, e)) =
    let same = same_rest (sym e ∙ is) in
    subst (λ l. AreDigits (radix_of l) n digits) (same_first same) (subst (AreDigits (radix_of other) n) (same_rest same) h)

-- Without one it is decimal.
pub plain_is : (n : ℕ) (text : List ℕ) → ((letter : ℕ) (digits : List ℕ) → text ≡ 48 ∷ letter ∷ digits → radix_of letter ≡ 0) → IsLiteral n text → IsDecimal n text
plain_is n text none (inl h) = h
plain_is n text none (inr (letter, digits, h, e)) =
    absurd (no_digits (without_underscores digits) (subst (λ r. IsNumeral r (without_underscores digits)) (none letter digits e) h.0))

-- A text denotes at most one number.
pub one_literal : (n m : ℕ) (text : List ℕ) → IsLiteral n text → IsLiteral m text → n ≡ m
one_literal n m text (inl a) (inl b) = a.1.1 ∙ sym b.1.1
one_literal n m text (inr (letter, digits, a, e)) b =
    let c = marked_is m letter digits text e (radix_or (radix_of letter) (without_underscores digits) (radixes letter) a.0) b in
    a.1 ∙ sym c.1
one_literal n m text (inl a) (inr (letter, digits, b, e)) =
    let c = marked_is n letter digits text e (radix_or (radix_of letter) (without_underscores digits) (radixes letter) b.0) (inl a) in
    c.1 ∙ sym b.1

-- A digit, also one above 9, is a byte of a word.
digit_of_word : (radix b : ℕ) → radix ≤ 16 → is_of_digits radix b ≡ true → is_of_word b ≡ true
digit_of_word radix b high h = grind (arith, nat_tests, high, h)

-- The digits of a literal are bytes of a word.
digits_of_word : (radix : ℕ) (bs : List ℕ) → radix ≤ 16 → AllDigits radix (without_underscores bs) → AllPass is_of_word bs
digits_of_word radix bs high all = λ k d inside. digit_of_word radix (get_or bs k d) high (of_digits radix bs all k d inside)

-- The bytes of a literal are those of a word.
pub literal_bytes : (n : ℕ) (text : List ℕ) → IsLiteral n text → AllPass is_of_word text
literal_bytes n text (inl (first, ((some, all), e))) = digits_of_word 10 text (omega arith) all
literal_bytes n text (inr (letter, digits, ((some, all), same), e)) =
    let low = radix_or (radix_of letter) (without_underscores digits) (radixes letter) (some, all) in
    let mark : is_of_word letter ≡ true = grind (arith, nat_tests, low) in
    rw e (pass_cons is_of_word 48 (letter ∷ digits) refl (pass_cons is_of_word letter digits mark (digits_of_word (radix_of letter) digits (most letter) all)))

-- A literal isn't empty.
pub literal_some : (n : ℕ) (text : List ℕ) → IsLiteral n text → 0 < length text
literal_some n [] (inl (first, ((some, all), e))) = some
literal_some n [] (inr (letter, digits, h, e)) = let size = ap length e in omega (arith, size)
literal_some n (b ∷ text) h = omega arith

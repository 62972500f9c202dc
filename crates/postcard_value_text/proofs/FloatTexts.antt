-- Lemmas on the texts of floats: their bytes, the hexadecimal digits of a NaN's bits, and the float at the start of a text. No other float is
-- there.
use Rattle.std.proofs.Common.{◌≡◌, ℕ, zero, suc, ◌*◌, ◌^◌, ◌<◌, true, false, List, [], ◌∷◌, ◌++◌, length, get_or, drop, Some, codes, refl, sym, ap, subst, ◌∙◌, arith, inl, inr, ◌||◌, true≢false, ◌⊎◌}
use Rattle.std.proofs.lemmas.Bool.Decides.{nat_tests}
use Rattle.std.proofs.lemmas.Fmt.{digits_is_IsNumeral}
use Rattle.std.proofs.lemmas.List.Elements.{All-nil, All-cons, All-append}
use Rattle.std.proofs.lemmas.List.Sums.{AllPass-from_list_all}
use Rattle.std.specs.Bool.{◌==◌}
use Rattle.std.specs.Char.{digit_value, is_ascii_lowercase, is_ascii_whitespace, to_ascii_lowercase}
use Rattle.std.specs.Fmt.{digits}
use Rattle.std.specs.List.{AllPass, list_all}
use Rattle.std.specs.Str.Parse.{AllDigits, IsNumeral, digits_value, without_leading_plus}
use Rattle.std.specs.Float.{Float, Format, binary32, binary64, nan}
use Rattle.std.specs.Float.Ieee.{is_nan, of_bits, to_bits, top}
use Rattle.std.specs.Float.Numeral.{scan_numeral}
use Rattle.std.specs.Float.Parse.{parse_float, read_float, completes_number, float_scan_step, lowercases_to, without_sign, is_infinity_text, is_nan_text}
use lib.Ieee.Bits.{to_bits-of_bits}
use Rattle.postcard_schema_text.specs.Text.{is_of_word, AreBlank, Led, Then, TakesPhrase, IsSign, IsWord, unblank, EndsWord}
use Rattle.postcard_schema_text.specs.FrontLemmas.{pass_head, pass_tail, trim_is, takes_split, same_rest, word_unblank, sign_unblank, sign_ends_word, same_word, word_taken as whole_word}
use Rattle.postcard_schema_text.specs.Phrases.{takes_two, takes_as}
use Rattle.std.proofs.lemmas.Bool.{and_parts, cases_Bool, eqb-true, or_cases}
use Rattle.std.specs.Prelude.{is_some}
use Rattle.std.specs.Str.{IsTrimAsciiStart, IsUtf8}
use Rattle.std.proofs.lemmas.Str.{IsUtf8-from_ascii}
use Rattle.std.proofs.lemmas.Str.Ascii.{IsAscii-from_all}
use Rattle.core.proofs.dec2flt.Grammar.{is_some-parse_float}
use Rattle.postcard_schema.specs.declared.leaf.Float.{Float as FloatType}
use Rattle.postcard_schema.specs.declared.leaf.Float.TheVariants.{F32, F64}
use Rattle.postcard_value_text.specs.Floats.{IsFloatWord, is_of_float, AreNan, IsHexadecimal, SpellsFloat, EndsNumber, format_of, IsNanText, EndsFloat}
use Rattle.postcard_value_text.proofs.Fronts.{AreScalars, blank_other, one_number, scalar_taken}

-- ---- the hexadecimal digits of a number

-- A digit is a byte of a word.
digit_of_word : (b : ℕ) → digit_value b < 16 → is_of_word b ≡ true
digit_of_word b low = grind (arith, nat_tests, low)

-- Digits are bytes of a word.
digits_of_word : (ds : List ℕ) → AllDigits 16 ds → AllPass is_of_word ds
digits_of_word [] all = All-nil _
digits_of_word (d ∷ ds) all = All-cons (λ b. is_of_word b ≡ true) d ds (digit_of_word d all.0) (digits_of_word ds all.1)

-- ---- what is printed

no_blanks : AreBlank []
no_blanks k d low = absurd (omega (arith, low))

-- `nan` is the NaN with the usual bits.
nan_reads : (f : Format) → parse_float f (codes "nan") ≡ Some nan
unfolding read_float scan_numeral
nan_reads f = refl

-- The bits of the usual NaN of an `f32`.
nan_32 : to_bits binary32 nan ≡ 0x7fc0_0000
unfolding to_bits
nan_32 = refl

nan_64 : to_bits binary64 nan ≡ 0x7ff8_0000_0000_0000
unfolding to_bits
nan_64 = refl

-- A word that is read as the float with these bits denotes them.
pub word_spells : (f : Format) (bits : ℕ) (x : Float) (word : List ℕ) → parse_float f word ≡ Some x → bits ≡ to_bits f x → SpellsFloat f bits word
word_spells f bits x word reads is = inl ([], word, no_blanks, (x, reads, is), refl)

-- A filled word is the text of a word.
plain_word : (word : List ℕ) → AllPass is_of_word word → IsWord word word
plain_word word pass = (pass, ([], word, no_blanks, refl, refl))

plain_sign : (sign : ℕ) → IsSign sign (sign ∷ [])
plain_sign sign = ([], sign ∷ [], no_blanks, refl, refl)

nan_of_word : AllPass is_of_word (codes "nan")
nan_of_word = AllPass-from_list_all is_of_word (codes "nan") refl

-- `nan` denotes the bits of `f32::NAN`.
pub usual_32 : (bits : ℕ) → bits ≡ 0x7fc0_0000 → SpellsFloat binary32 bits (codes "nan")
usual_32 bits is = word_spells binary32 bits nan (codes "nan") (nan_reads binary32) (is ∙ sym nan_32)

-- `nan` denotes the bits of `f64::NAN`.
pub usual_64 : (bits : ℕ) → bits ≡ 0x7ff8_0000_0000_0000 → SpellsFloat binary64 bits (codes "nan")
usual_64 bits is = word_spells binary64 bits nan (codes "nan") (nan_reads binary64) (is ∙ sym nan_64)

-- The text of a float that is no NaN denotes the bits that it was made of.
pub number_spells : (f : Format) (bits : ℕ) (word : List ℕ) → bits < 2 * top f → is_nan (of_bits f bits) ≡ false → parse_float f word ≡ Some (of_bits f bits) → SpellsFloat f bits word
number_spells f bits word low other reads =
    word_spells f bits (of_bits f bits) word reads (sym (to_bits-of_bits f bits low (rw other tt)))

-- The bits of a NaN in parentheses denote the NaN.
pub nan_spells : (f : Format) (bits : ℕ) → AreNan f bits → bits < 16 ^ 64 → SpellsFloat f bits (codes "nan(0x" ++ (digits 16 false bits ++ 41 ∷ []))
nan_spells f bits are low =
    let ds = digits 16 false bits in
    let k = digits_is_IsNumeral 16 false (omega arith) (omega arith) bits low in
    let zero_x : AllPass is_of_word (48 ∷ 120 ∷ []) = AllPass-from_list_all is_of_word (48 ∷ 120 ∷ []) refl in
    let pass : AllPass is_of_word (48 ∷ 120 ∷ ds) = All-append (λ b. is_of_word b ≡ true) (48 ∷ 120 ∷ []) ds zero_x (digits_of_word ds k.0.1) in
    let code : IsHexadecimal bits (48 ∷ 120 ∷ ds) = (ds, k.0, sym k.1, plain_word _ pass) in
    inr (
      are,
      (
        codes "nan",
        40 ∷ 48 ∷ 120 ∷ (ds ++ 41 ∷ []),
        plain_word (codes "nan") nan_of_word,
        (40 ∷ [], 48 ∷ 120 ∷ (ds ++ 41 ∷ []), plain_sign 40, (48 ∷ 120 ∷ ds, 41 ∷ [], code, plain_sign 41, refl), refl),
        refl,
      ),
    )

-- ---- what is read

-- Blanks and a word that is read as the float with these bits.
pub float_taken : (f : Format) (bits : ℕ) (word text after : List ℕ) → IsFloatWord f bits word → TakesPhrase (Led (λ w. w ≡ word)) text after → TakesPhrase (SpellsFloat f bits) text after
float_taken f bits word text after (x, reads, is) taken =
    takes_as (Led (λ w. w ≡ word)) (SpellsFloat f bits) text after
    (λ t h. let (blanks, w, blank, same, whole) = h in inl (blanks, w, blank, (x, ap (parse_float f) same ∙ reads, is), whole)) taken

-- `nan` and a code in parentheses.
pub nan_taken : (f : Format) (bits : ℕ) (word text a b c : List ℕ) → AreNan f bits → word ≡ codes "nan" → TakesPhrase (Led (λ w. w ≡ word)) text a → TakesPhrase (IsSign 40) a b
    → TakesPhrase (Then (IsHexadecimal bits) (IsSign 41)) b c → TakesPhrase (SpellsFloat f bits) text c
nan_taken f bits word text a b c are is taken sign code =
    let first : TakesPhrase (IsWord (codes "nan")) text a =
    takes_as (Led (λ w. w ≡ word)) (IsWord (codes "nan")) text a (λ t h. (nan_of_word, subst (λ v. Led (λ w. w ≡ v) t) is h)) taken in
    takes_as (Then (IsWord (codes "nan")) (Then (IsSign 40) (Then (IsHexadecimal bits) (IsSign 41)))) (SpellsFloat f bits) text c (λ t h. inr (are, h))
    (takes_two (IsWord (codes "nan")) (Then (IsSign 40) (Then (IsHexadecimal bits) (IsSign 41))) text a c first
    (takes_two (IsSign 40) (Then (IsHexadecimal bits) (IsSign 41)) a b c sign code))

-- A byte of a word is no `+`.
no_plus : (b : ℕ) → is_of_word b ≡ true → (b == 43) ≡ false
no_plus b pass = grind (arith, nat_tests, pass)

-- A word doesn't begin with `+`.
pub unsigned_word : (word : List ℕ) → AllPass is_of_word word → without_leading_plus word ≡ word
unsigned_word [] pass = refl
unsigned_word (b ∷ word) pass = rw (no_plus b (pass_head is_of_word b word pass)) refl

-- `0x`, digits and `)`.
pub code_taken : (n : ℕ) (word digits' text a b : List ℕ) → TakesPhrase (IsWord word) text a → word ≡ 48 ∷ 120 ∷ digits'
    → IsNumeral 16 (without_leading_plus digits') → n ≡ digits_value 16 (without_leading_plus digits') → TakesPhrase (IsSign 41) a b
    → TakesPhrase (Then (IsHexadecimal n) (IsSign 41)) text b
code_taken n word ds text a b (front, (pass, led), whole) is num says sign =
    let all : AllPass is_of_word (48 ∷ 120 ∷ ds) = subst (AllPass is_of_word) is pass in
    let plain = unsigned_word ds (pass_tail is_of_word 120 ds (pass_tail is_of_word 48 (120 ∷ ds) all)) in
    let held : IsHexadecimal n front = (ds, rw plain at num, rw plain at says, (all, rw is at led)) in
    takes_two (IsHexadecimal n) (IsSign 41) text a b (front, held, whole) sign

-- The text at n doesn't go on with a number if the byte there is none of a number, or the text ends.
pub ends_at : (n : ℕ) (text : List ℕ) → (n < length text → is_of_float (get_or text n 0) ≡ false) → EndsNumber (drop n text)
ends_at zero [] h = tt
ends_at zero (b ∷ text) h = h (omega arith)
ends_at (suc n) [] h = tt
ends_at (suc n) (b ∷ text) h = ends_at n text (λ low. h (omega (arith, low)))

-- ---- the bytes of a number

-- A text that can no longer be a number stays none with further bytes.
stuck : (bs : List ℕ) → completes_number 7 bs ≡ true → ⊥
stuck [] h = true≢false (sym h)
stuck (b ∷ bs) h =
    let still : float_scan_step 7 b ≡ 7 = grind (arith, nat_tests) in
    stuck bs (subst (λ s. completes_number s bs ≡ true) still h)

ends_at_other : (s b : ℕ) → is_of_float b ≡ false → float_scan_step s b ≡ 7
ends_at_other s b h = grind (arith, nat_tests, h)

-- A text that is a number has only bytes of numbers.
number_all : (s : ℕ) (bs : List ℕ) → completes_number s bs ≡ true → AllPass is_of_float bs
number_all s [] h = All-nil _
number_all s (b ∷ bs) h = elim (cases_Bool (is_of_float b)) [
  | inl is ↦ All-cons (λ x. is_of_float x ≡ true) b bs is (number_all (float_scan_step s b) bs h)
  | inr other ↦ absurd (stuck bs (subst (λ t. completes_number t bs ≡ true) (ends_at_other s b other) h))
]

-- The bytes of a word of small letters in either case.
letter_case : (b w : ℕ) → is_ascii_lowercase w ≡ true → to_ascii_lowercase b ≡ w → is_of_float b ≡ true
letter_case b w small is = grind (arith, nat_tests, small, is)

-- A text that is a word in any case, such as `inf`, has only bytes of numbers.
word_all : (bs ws : List ℕ) → list_all is_ascii_lowercase ws ≡ true → lowercases_to bs ws ≡ true → AllPass is_of_float bs
word_all [] ws small h = All-nil _
word_all (b ∷ bs) [] small h = absurd (true≢false (sym h))
word_all (b ∷ bs) (w ∷ ws) small h =
    let s = and_parts (is_ascii_lowercase w) (list_all is_ascii_lowercase ws) small in
    let k = and_parts (to_ascii_lowercase b == w) (lowercases_to bs ws) h in
    All-cons (λ x. is_of_float x ≡ true) b bs (letter_case b w s.0 (eqb-true _ w k.0)) (word_all bs ws s.1 k.1)

-- The text of a float without a sign has only bytes of numbers.
unsigned_all : (bs : List ℕ) → completes_number 0 bs || (is_infinity_text bs || is_nan_text bs) ≡ true → AllPass is_of_float bs
unsigned_all bs h = elim (or_cases (completes_number 0 bs) (is_infinity_text bs || is_nan_text bs) h) [
  | inl n ↦ number_all 0 bs n
  | inr w ↦ elim (or_cases (is_infinity_text bs) (is_nan_text bs) w) [
    | inl i ↦ elim (or_cases (lowercases_to bs (codes "inf")) (lowercases_to bs (codes "infinity")) i) [
      | inl a ↦ word_all bs (codes "inf") refl a
      | inr b ↦ word_all bs (codes "infinity") refl b
    ]
    | inr n ↦ word_all bs (codes "nan") refl n
  ]
]

sign_passes : (b : ℕ) → b == 43 || b == 45 ≡ true → is_of_float b ≡ true
sign_passes b h = grind (arith, nat_tests, h)

-- The text of a float with a sign has only bytes of numbers.
signed_all : (bs : List ℕ) → AllPass is_of_float (without_sign bs) → AllPass is_of_float bs
signed_all [] h = All-nil _
signed_all (b ∷ bs) h = elim (cases_Bool (b == 43 || b == 45)) [
  | inl s ↦ All-cons (λ x. is_of_float x ≡ true) b bs (sign_passes b s) (rw s at h)
  | inr s ↦ rw s at h
]

-- What is read as a float has a byte, and only bytes of numbers.
pub float_all : (f : Format) (x : Float) (bs : List ℕ) → parse_float f bs ≡ Some x → (0 < length bs) × AllPass is_of_float bs
float_all f x [] reads = absurd (true≢false (ap is_some (sym reads) ∙ is_some-parse_float f []))
float_all f x (b ∷ bs) reads = (omega arith, signed_all (b ∷ bs) (unsigned_all (without_sign (b ∷ bs)) (sym (is_some-parse_float f (b ∷ bs)) ∙ ap is_some reads)))

-- ---- what comes first in a text

pub float_scalars : (f : Format) (bits : ℕ) → AreScalars (IsFloatWord f bits)
unfolding AreScalars
float_scalars f bits word reads = float_all f reads.0 word reads.1

-- The text begins with `nan` and the bits of a NaN in parentheses.
pub record NanFirst (bits : ℕ) (text rest : List ℕ) : Type 0 where
  pub back : List ℕ
  pub first : unblank text ≡ codes "nan" ++ back
  pub code : TakesPhrase (Then (IsSign 40) (Then (IsHexadecimal bits) (IsSign 41))) back rest

pub nan_first : (f : Format) (bits : ℕ) (text rest : List ℕ) → TakesPhrase (IsNanText f bits) text rest → NanFirst bits text rest
nan_first f bits text rest (front, (are, code), whole) =
    let k = takes_split (IsWord (codes "nan")) (Then (IsSign 40) (Then (IsHexadecimal bits) (IsSign 41))) text rest (front, code, whole) in
    record { back = k.0; first = word_unblank 110 (97 ∷ 110 ∷ []) text k.0 k.1; code = k.2 }

-- A text that begins with a sign, after blanks or none, goes on with no number.
sign_ends : (sign : ℕ) (text rest : List ℕ) → is_of_float sign ≡ false → TakesPhrase (IsSign sign) text rest → EndsNumber text
sign_ends sign text rest other (front, ([], phrase, blank, is, e), whole) =
    let all : text ≡ sign ∷ rest = whole ∙ ap (λ t. t ++ rest) (e ∙ is) in
    rw all other
sign_ends sign text rest other (front, (b ∷ blanks, phrase, blank, is, e), whole) =
    let all : text ≡ b ∷ (blanks ++ phrase) ++ rest = whole ∙ ap (λ t. t ++ rest) e in
    rw all (blank_other b (pass_head is_ascii_whitespace b blanks blank))

-- ---- a code that was taken

-- The word that is next is `0x` and the digits of n, and `)` comes after it.
pub record CodeFound (n : ℕ) (word left after : List ℕ) : Type 0 where
  pub digits : List ℕ
  pub numeral : IsNumeral 16 digits
  pub says : n ≡ digits_value 16 digits
  pub all : AllPass is_of_word digits
  pub is : word ≡ 48 ∷ 120 ∷ digits
  pub close : TakesPhrase (IsSign 41) left after

-- The word that was taken is the bits, after `0x`.
pub code_found : (n : ℕ) (text word left after : List ℕ) → TakesPhrase (IsWord word) text left → ((trimmed : List ℕ) × IsTrimAsciiStart text trimmed × (trimmed ≡ word ++ left)) → EndsWord left
    → TakesPhrase (Then (IsHexadecimal n) (IsSign 41)) text after → CodeFound n word left after
code_found n text word left after taken first over h =
    let k = takes_split (IsHexadecimal n) (IsSign 41) text after h in
    let (front, hex, whole) = k.1 in
    let (digits, numeral, says, (all, led)) = hex in
    let same = same_word 48 (120 ∷ digits) word text left k.0 (whole_word taken first over) (front, (all, led), whole) (sign_ends_word 41 k.0 after refl k.2) in
    record {
      digits = digits;
      numeral = numeral;
      says = says;
      all = pass_tail is_of_word 120 digits (pass_tail is_of_word 48 (120 ∷ digits) all);
      is = sym same.0;
      close = subst (λ t. TakesPhrase (IsSign 41) t after) same.1 k.2;
    }

-- ---- a text that was taken

same_some : (x y : Float) → Some x ≡ Some y → x ≡ y
same_some x y e = cc

-- A word has the bits of one float.
pub one_float : (f : Format) (m n : ℕ) (word : List ℕ) → IsFloatWord f m word → IsFloatWord f n word → m ≡ n
one_float f m n word (x, reads, is) (y, too, was) = is ∙ ap (to_bits f) (same_some x y (sym reads ∙ too)) ∙ sym was

-- The bits of a NaN are below 2 ^ 64.
pub at_most_64 : (t : FloatType) (bits : ℕ) → AreNan (format_of t) bits → bits < 2 ^ 64
at_most_64 F32 bits are = omega (arith, are.0)
at_most_64 F64 bits are = omega (arith, are.0)

-- The number at the start of a text. Either the word is the whole phrase, and the bits are those of the float that it denotes. Or it is
-- `nan`, and the phrase goes on with its bits in parentheses.
pub Parsed : Format → ℕ → List ℕ → List ℕ → List ℕ → Type 0
Parsed f bits word left after =
    (IsFloatWord f bits word × (left ≡ after))
    ⊎ (AreNan f bits × (word ≡ codes "nan") × ((mid : List ℕ) × TakesPhrase (IsSign 40) left mid × TakesPhrase (Then (IsHexadecimal bits) (IsSign 41)) mid after))

pub parsed : (f : Format) (bits : ℕ) (text word left after trimmed : List ℕ) → AllPass is_of_float word → EndsNumber left → IsTrimAsciiStart text trimmed → trimmed ≡ word ++ left
    → TakesPhrase (SpellsFloat f bits) text after → EndsFloat after → Parsed f bits word left after
unfolding Parsed
parsed f bits text word left after trimmed all over trim is (x, inl p, e) end =
    inl (scalar_taken (IsFloatWord f bits) text after word left (float_scalars f bits) (x, p, e) end.0 all over (trimmed, trim, is))
parsed f bits text word left after trimmed all over trim is (x, inr p, e) end =
    let n = nan_first f bits text after (x, p, e) in
    let sign = takes_split (IsSign 40) (Then (IsHexadecimal bits) (IsSign 41)) n.back after n.code in
    let k = one_number (codes "nan") word n.back left (AllPass-from_list_all is_of_float (codes "nan") refl) all (sign_ends 40 n.back sign.0 refl sign.1) over (sym n.first ∙ sym (trim_is text trimmed trim) ∙ is) in
    inr (p.0, sym k.0, (sign.0, subst (λ t. TakesPhrase (IsSign 40) t sign.0) k.1 sign.1, sign.2))

-- Where a `(` was taken after the number, the phrase is a code.
pub parsed_code : (f : Format) (bits : ℕ) (word left after mid : List ℕ) → Parsed f bits word left after → EndsFloat after → TakesPhrase (IsSign 40) left mid
    → AreNan f bits × TakesPhrase (Then (IsHexadecimal bits) (IsSign 41)) mid after
unfolding Parsed
parsed_code f bits word left after mid (inl p) end sign = absurd (end.1 mid (subst (λ t. TakesPhrase (IsSign 40) t mid) p.1 sign))
parsed_code f bits word left after mid (inr (are, is, (other, taken, code))) end sign =
    let same : other ≡ mid = same_rest (sym (sign_unblank 40 left other refl taken) ∙ sign_unblank 40 left mid refl sign) in
    (are, subst (λ t. TakesPhrase (Then (IsHexadecimal bits) (IsSign 41)) t after) same code)

-- Where none was, or the number isn't `nan`, the phrase is the number.
pub parsed_number : (f : Format) (bits : ℕ) (word left after : List ℕ) → Parsed f bits word left after → (word ≡ codes "nan" → (mid : List ℕ) → TakesPhrase (IsSign 40) left mid → ⊥)
    → IsFloatWord f bits word × (left ≡ after)
unfolding Parsed
parsed_number f bits word left after (inl p) none = p
parsed_number f bits word left after (inr (are, is, (mid, taken, code))) none = absurd (none is mid taken)

-- The bytes of numbers are UTF-8.
float_ascii : (b : ℕ) → is_of_float b ≡ true → b < 128
float_ascii b h = grind (arith, nat_tests, h)

-- A word of the bytes of numbers is UTF-8.
pub number_utf8 : (word : List ℕ) → AllPass is_of_float word → IsUtf8 word
number_utf8 word pass = IsUtf8-from_ascii word (IsAscii-from_all word (λ k d inside. float_ascii (get_or word k d) (pass k d inside)))

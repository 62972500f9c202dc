-- Texts of numbers: what stands before their digits, and that a text denotes one number.
use Rattle.std.proofs.Common.{◌≡◌, ◌≢◌, ℕ, ℤ, pos, neg_ℤ, zero, suc, ◌<◌, Bool, true, false, cond, ◌^◌, List, [], ◌∷◌, ◌++◌, drop, codes, refl, sym, ap, subst, ◌∙◌, arith}
use Rattle.std.proofs.lemmas.Bool.Decides.{nat_tests}
use Rattle.std.specs.Int.{w128}
use Rattle.std.specs.Prelude.{FitsSigned, Option, Some, None, IfSome, IfNone, SomeIff}
use Rattle.std.specs.Str.Parse.{starts_with_minus, without_leading_plus, without_leading_sign}
use Rattle.std.proofs.lemmas.Int.{ints}
use Rattle.postcard_schema_text.specs.declared.literal.LiteralError.{LiteralError}
use Rattle.postcard_schema_text.specs.declared.literal.LiteralError.TheVariants.{Malformed, TooLarge}
use Rattle.postcard_schema_text.specs.Literals.{IsLiteral, IsNoNumber}
use Rattle.postcard_schema_text.specs.LiteralLemmas.{one_literal}
use Rattle.postcard_schema.specs.declared.leaf.Integer.{Integer}
use Rattle.postcard_value.specs.Numbers.{IsBitsOf}
use Rattle.postcard_value.specs.NumberLemmas.{same_bits}
use Rattle.postcard_value_text.specs.Numbers.{IsUnsigned, IsSigned, HasBits}

-- A word of which no number below 2 ^ 128 is known denotes none.
pub no_literal : (e : LiteralError) (text : List ℕ) → IsNoNumber (λ n. IsLiteral n text) e → (n : ℕ) → n < 2 ^ 128 → IsLiteral n text → ⊥
no_literal Malformed text none n low h = none n h
no_literal TooLarge text (m, is, large) n low h = let same = one_literal m n text is h in omega (arith, low, large, same)

-- A text denotes one number.
pub one_unsigned : (n m : ℕ) (text : List ℕ) → IsUnsigned n text → IsUnsigned m text → n ≡ m
one_unsigned n m text a b = one_literal n m (without_leading_plus text) a b

-- A text denotes at most one signed number.
pub one_signed : (y z : ℤ) (text : List ℕ) → IsSigned y text → IsSigned z text → y ≡ z
one_signed y z text (n, a, e) (m, b, f) =
    let same = one_literal n m (without_leading_sign text) a b in
    e ∙ ap (λ k. cond (starts_with_minus text) (neg_ℤ (pos k)) (pos k)) same ∙ sym f

-- A text denotes at most one pattern of bits of a type.
pub one_bits : (signed : Bool) (i : Integer) (m n : ℕ) (text : List ℕ) → HasBits signed i m text → HasBits signed i n text → m ≡ n
one_bits true i m n text (y, a, h) (z, b, k) = same_bits i y z m n (one_signed y z text h k) a b
one_bits false i m n text (low, h) (high, k) = one_unsigned m n text h k

-- The bits of the signed number that a text denotes, and of no other.
pub signed_found : (i : Integer) (text : List ℕ) (z : ℤ) (r : Option ℕ) → IsSigned z text → IfSome r (λ n. IsBitsOf i z n) → IfSome r (λ n. HasBits true i n text)
signed_found i text z None is h = tt
signed_found i text z (Some n) is h = (z, h, is)

-- If the number that a text denotes has no bits of the type, the text denotes no bits of the type.
pub signed_refused : (i : Integer) (text : List ℕ) (z : ℤ) (r : Option ℕ) → IsSigned z text → IfNone r ((n : ℕ) → IsBitsOf i z n → ⊥) → IfNone r ((n : ℕ) → HasBits true i n text → ⊥)
signed_refused i text z None is h = λ n (y, bits, k). h n (subst (λ x. IsBitsOf i x n) (one_signed y z text k is) bits)
signed_refused i text z (Some n) is h = tt

-- ---- signs

pub minus_taken : (word rest : List ℕ) → word ≡ codes "-" ++ rest → (starts_with_minus word ≡ true) × (without_leading_sign word ≡ rest)
minus_taken word rest e = rw e (refl, refl)

pub minus_none : (word : List ℕ) → ((rest : List ℕ) → word ≢ codes "-" ++ rest) → starts_with_minus word ≡ false
minus_none [] none = refl
minus_none (c ∷ cs) none = let other : c ≢ 45 = (λ e. none cs (ap (λ x. x ∷ cs) e)) in grind (arith, nat_tests, other)

-- ---- numbers with a sign

pos_small : (n : ℕ) → FitsSigned w128 (pos n) → n < 2 ^ 128
pos_small n h = omega (arith, ints, h.sfits)

neg_small : (n : ℕ) → FitsSigned w128 (neg_ℤ (pos n)) → n < 2 ^ 128
neg_small zero h = omega arith
neg_small (suc n) h = omega (arith, ints, h.sfits)

-- The number that the text denotes, and its digits.
abbrev pub SignedBy : (ℕ → ℤ) → List ℕ → ℤ → Type 0
SignedBy f digits z = (n : ℕ) × (n < 2 ^ 128) × IsLiteral n digits × (z ≡ f n)

abbrev pub minus : ℕ → ℤ
minus n = neg_ℤ (pos n)

-- A word that begins with `-` and denotes z has a literal of the magnitude of z after the `-`.
pub minus_spelled : (word rest : List ℕ) (z : ℤ) → word ≡ codes "-" ++ rest → FitsSigned w128 z → IsSigned z word → SignedBy minus rest z
minus_spelled word rest z e fits (n, is, same) =
    let k = minus_taken word rest e in
    let value : z ≡ minus n = same ∙ ap (λ b. cond b (minus n) (pos n)) k.0 in
    (n, neg_small n (subst (FitsSigned w128) value fits), subst (IsLiteral n) k.1 is, value)

plain_sign : (word : List ℕ) → starts_with_minus word ≡ false → without_leading_sign word ≡ without_leading_plus word
plain_sign word e = ap (λ b. cond b (drop 1 word) (without_leading_plus word)) e

-- A word that doesn't begin with `-` and denotes z is a literal of z, perhaps after a `+`.
pub plain_spelled : (word : List ℕ) (z : ℤ) → ((rest : List ℕ) → word ≢ codes "-" ++ rest) → FitsSigned w128 z → IsSigned z word → SignedBy pos (without_leading_plus word) z
plain_spelled word z none fits (n, is, same) =
    let k = minus_none word none in
    let value : z ≡ pos n = same ∙ ap (λ b. cond b (minus n) (pos n)) k in
    (n, pos_small n (subst (FitsSigned w128) value fits), subst (IsLiteral n) (plain_sign word k) is, value)

-- A literal after `-` denotes the negative of its number.
pub minus_found : (word rest : List ℕ) (n : ℕ) (r : Option ℤ) (z : ℤ) → word ≡ codes "-" ++ rest → IsLiteral n rest → SomeIff r (FitsSigned w128 z) z → z ≡ minus n → IfSome r (λ y. IsSigned y word)
minus_found word rest n None z e is some same = tt
minus_found word rest n (Some x) z e is (fits, eq) same =
    let k = minus_taken word rest e in
    (n, subst (IsLiteral n) (sym k.1) is, eq ∙ same ∙ ap (λ b. cond b (minus n) (pos n)) (sym k.0))

-- The word denotes no number that fits, since the only number that it denotes doesn't fit.
pub signed_none : (f : ℕ → ℤ) (word digits : List ℕ) (n : ℕ) (r : Option ℤ) (z : ℤ)
    → ((y : ℤ) → FitsSigned w128 y → IsSigned y word → SignedBy f digits y) → IsLiteral n digits → SomeIff r (FitsSigned w128 z) z → z ≡ f n
    → IfNone r ((y : ℤ) → FitsSigned w128 y → IsSigned y word → ⊥)
signed_none f word digits n None z spelled is some same = λ y fits h.
    let (m, low, literal, value) = spelled y fits h in
    let number : m ≡ n = one_literal m n digits literal is in
    some (subst (FitsSigned w128) (value ∙ ap f number ∙ sym same) fits)
signed_none f word digits n (Some x) z spelled is some same = tt

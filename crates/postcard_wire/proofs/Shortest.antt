-- The shortest spelling of a tree spells it, and every other is longer.
use Rattle.std.proofs.Common.{◌≡◌, ℕ, suc, ◌+◌, ◌<◌, ◌≤◌, ◌^◌, inl, inr, List, [], ◌∷◌, ◌++◌, length, refl, sym, ap, ap₂, ◌∙◌, subst, arith, length-append, append-nil, encode_utf8}
use Rattle.std.proofs.lemmas.Str.{IsUtf8-encode, length-encode, len_utf8_bounds}
use Rattle.postcard_wire.specs.Number.{max_digits, AreDigits, SpellsNum, digits_within, digits, zigzag}
use Rattle.postcard_wire.specs.Tree.{Tree, Trees, Byte, Boolean, Num, Int, Char, Text, Absent, Present, Group, Seq, Variant, NoTrees, Then, count, IsWidth, WellFormed, AreWellFormed}
use Rattle.postcard_wire.specs.Spelling.{Spells, SpellsAll, canonical, canonical_all, BeginsWithChar}
use Rattle.postcard_wire.proofs.Ranged.{zig_below}
use Rattle.postcard_wire.proofs.Numbers.{IsOrLonger, AreDigits-digits_within, number-digits_within, length-digits_within, least_digits}

-- The shortest digits of a number below 128 ^ (j + 1) spell it, if the width allows j + 1 digits.
spells_in : (w j n : ℕ) → n < 128 ^ suc j → n < 128 ^ 19 → suc j ≤ max_digits w → SpellsNum w n (digits n)
unfolding digits
spells_in w j n h low few =
    let l = length-digits_within 18 j n h in
    record { digits = AreDigits-digits_within 18 n low; count = omega arith; value = number-digits_within 18 n low }

-- The shortest digits of a number of a width spell it.
pub SpellsNum-digits : (w n : ℕ) → IsWidth w → n < 2 ^ w → SpellsNum w n (digits n)
SpellsNum-digits w n wide h =
    elim wide [
      | inl e ↦ let k = rw e at h in spells_in w 2 n (omega arith) (omega arith) (rw e (omega arith))
      | inr f ↦ elim f [
        | inl e ↦ let k = rw e at h in spells_in w 4 n (omega arith) (omega arith) (rw e (omega arith))
        | inr f ↦ elim f [
          | inl e ↦ let k = rw e at h in spells_in w 9 n (omega arith) (omega arith) (rw e (omega arith))
          | inr e ↦ let k = rw e at h in spells_in w 18 n (omega arith) (omega arith) (rw e (omega arith))
        ]
      ]
    ]

-- Any other spelling of a number is longer.
pub least_num : (w n : ℕ) (p : List ℕ) → SpellsNum w n p → IsOrLonger p (digits n)
unfolding digits
least_num w n p s = subst (λ (m : ℕ). IsOrLonger p (digits_within 18 m)) s.value (least_digits 18 p s.digits)

-- Two parts, each the shortest or longer, together are the shortest or longer.
least_joined : (p x y a b : List ℕ) → IsOrLonger x a → IsOrLonger y b → p ≡ x ++ y → IsOrLonger p (a ++ b)
least_joined p x y a b f g e =
    elim f [
      | inl i ↦ elim g [
        | inl j ↦ inl (e ∙ ap₂ (λ (u v : List ℕ). u ++ v) i j)
        | inr j ↦ inr (omega (arith, ap length e, ap length i, length-append x y, length-append a b))
      ]
      | inr i ↦ elim g [
        | inl j ↦ inr (omega (arith, ap length e, ap length j, length-append x y, length-append a b))
        | inr j ↦ inr (omega (arith, ap length e, length-append x y, length-append a b))
      ]
    ]

-- A number below 128 ^ (j + 1) has at most j + 1 digits.
pub length-digits : (j n : ℕ) → n < 128 ^ suc j → length (digits n) ≤ suc j
unfolding digits
length-digits j n h = length-digits_within 18 j n h

-- Digits are at least one.
some_digit : (x : List ℕ) → AreDigits x → 1 ≤ length x
some_digit [] d = absurd d
some_digit (a ∷ x) d = omega arith

-- The length and the text of a character alone are the shortest bytes for a text that begins with
-- it.
least_text : (c : ℕ) (p u x rest : List ℕ) → length u ≤ 4 → SpellsNum 64 (length u) x → p ≡ x ++ u → u ≡ encode_utf8 c ++ rest → IsOrLonger p (digits (length (encode_utf8 c)) ++ encode_utf8 c)
least_text c p u x [] few s e g =
    let h : u ≡ encode_utf8 c = g ∙ append-nil (encode_utf8 c) in
    least_joined p x u (digits (length (encode_utf8 c))) (encode_utf8 c)
    (subst (λ (v : List ℕ). IsOrLonger x (digits (length v))) h (least_num 64 (length u) x s)) (inl h) e
least_text c p u x (r ∷ rest) few s e g =
    let k : length u ≡ length (encode_utf8 c) + suc (length rest) = ap length g ∙ length-append (encode_utf8 c) (r ∷ rest) in
    let l : length (digits (length (encode_utf8 c))) ≤ 1 = length-digits 0 (length (encode_utf8 c)) (omega arith) in
    let m = some_digit x s.digits in
    inr (omega (arith, ap length e, length-append x u, length-append (digits (length (encode_utf8 c))) (encode_utf8 c)))

-- A character is spelled the shortest by its own text.
least_char : (c : ℕ) (p u x y : List ℕ) → BeginsWithChar c u → SpellsNum 64 (length u) x → y ≡ u → p ≡ x ++ y → IsOrLonger p (digits (length (encode_utf8 c)) ++ encode_utf8 c)
least_char c p u x y b s f e = least_text c p u x b.first.0 b.few s (e ∙ ap (λ (v : List ℕ). x ++ v) f) b.first.1

-- Each spelling of a tree, and of a row of trees, is the shortest or longer.
mutual
  pub least : (t : Tree) (p : List ℕ) → Spells t p → IsOrLonger p (canonical t)
  least (Byte b) p s = inl s
  least (Boolean x) p s = inl s
  least (Num w n) p s = least_num w n p s
  least (Int w z) p s = least_num w (zigzag z) p s
  least (Char c) p s = least_char c p s.0 s.2.0 s.2.1 s.1 s.2.2 s.2.3 s.2.4
  least (Text u) p s = least_joined p s.0 s.1 (digits (length u)) u (least_num 64 (length u) s.0 s.2) (inl s.3) s.4
  least Absent p s = inl s
  least (Present t) p s = least_joined p s.0 s.1 (1 ∷ []) (canonical t) (inl s.2) (least t s.1 s.3) s.4
  least (Group ts) p s = least_all ts p s
  least (Seq ts) p s = least_joined p s.0 s.1 (digits (count ts)) (canonical_all ts) (least_num 64 (count ts) s.0 s.2) (least_all ts s.1 s.3) s.4
  least (Variant i t) p s = least_joined p s.0 s.1 (digits i) (canonical t) (least_num 32 i s.0 s.2) (least t s.1 s.3) s.4

  pub least_all : (ts : Trees) (p : List ℕ) → SpellsAll ts p → IsOrLonger p (canonical_all ts)
  least_all NoTrees p s = inl s
  least_all (Then t ts) p s = least_joined p s.0 s.1 (canonical t) (canonical_all ts) (least t s.0 s.2) (least_all ts s.1 s.3) s.4

-- 32 is a width.
wide_32 : IsWidth 32
wide_32 = inr (inl refl)

-- 64 is a width.
wide_64 : IsWidth 64
wide_64 = inr (inr (inl refl))

-- The shortest spelling of a well-formed tree, and of a row of such trees, spells it.
mutual
  pub Spells-canonical : (t : Tree) → WellFormed t → Spells t (canonical t)
  Spells-canonical (Byte b) w = refl
  Spells-canonical (Boolean x) w = refl
  Spells-canonical (Num w n) h = SpellsNum-digits w n h.0 h.1
  Spells-canonical (Int w z) h = SpellsNum-digits w (zigzag z) h.0 (zig_below w z h.0 h.1)
  Spells-canonical (Char c) h =
      let l = length-encode c in
      let m = len_utf8_bounds c in (
        encode_utf8 c,
        record { few = omega arith; utf8 = IsUtf8-encode c h; first = ([], sym (append-nil (encode_utf8 c))) },
        (digits (length (encode_utf8 c)), encode_utf8 c, SpellsNum-digits 64 (length (encode_utf8 c)) wide_64 (omega arith), refl, refl),
      )
  Spells-canonical (Text u) h = (digits (length u), u, SpellsNum-digits 64 (length u) wide_64 h.1, refl, refl)
  Spells-canonical Absent h = refl
  Spells-canonical (Present t) h = (1 ∷ [], canonical t, refl, Spells-canonical t h, refl)
  Spells-canonical (Group ts) h = SpellsAll-canonical_all ts h
  Spells-canonical (Seq ts) h = (digits (count ts), canonical_all ts, SpellsNum-digits 64 (count ts) wide_64 h.0, SpellsAll-canonical_all ts h.1, refl)
  Spells-canonical (Variant i t) h = (digits i, canonical t, SpellsNum-digits 32 i wide_32 h.0, Spells-canonical t h.1, refl)

  pub SpellsAll-canonical_all : (ts : Trees) → AreWellFormed ts → SpellsAll ts (canonical_all ts)
  SpellsAll-canonical_all NoTrees h = refl
  SpellsAll-canonical_all (Then t ts) h = (canonical t, canonical_all ts, Spells-canonical t h.0, SpellsAll-canonical_all ts h.1, refl)

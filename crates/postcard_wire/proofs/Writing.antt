-- Writing a number digit by digit: the digits written so far, and their greatest number.
use Rattle.std.proofs.Common.{◌≡◌, inl, inr, ℕ, zero, suc, ◌+◌, ◌-◌, ◌*◌, ◌/◌, ◌%◌, ◌<◌, ◌≤◌, ◌^◌, List, [], ◌∷◌, ◌++◌, length, take, drop, set, bit_and, bit_or, refl, sym, ap, ◌∙◌, subst, arith, append_assoc, length-append, length-set}
use Rattle.std.proofs.Math.Nat.{pow-succ'}
use Rattle.std.proofs.lemmas.List.{take_more_set, length-take-le, drop-drop, drop-set-lt}
use Rattle.std.proofs.lemmas.Nat.{and_mask, or_shifted, or_comm}
use Rattle.postcard_wire.specs.Number.{digits_within, digits, AreDigits, max_digits}
use Rattle.postcard_wire.specs.Tree.{IsWidth}
use Rattle.postcard_wire.proofs.Numbers.{one_digit, more_digits, AreDigits-digits_within, length-digits_within}

-- The bytes written are the first digits of n, and the digits of rest, at most more + 1, are still
-- to be written.
pub record IsPartly (n : ℕ) (written : List ℕ) (rest : ℕ) : Type 0 where
  pub more : ℕ
  pub places : more + length written ≡ 18
  pub low : rest < 128 ^ suc more
  pub whole : written ++ digits_within more rest ≡ digits n

-- At the start nothing is written, and all of n is still to be written.
none_appended : (n : ℕ) → n < 2 ^ 128 → IsPartly n [] n
unfolding digits
none_appended n h = record { more = 18; places = refl; low = omega arith; whole = refl }

-- If rest has more than one digit, writing its last seven bits with the high bit set leaves rest /
-- 128.
one_appended : (n : ℕ) (written : List ℕ) (rest : ℕ) → IsPartly n written rest → 128 ≤ rest → IsPartly n (written ++ (rest % 128 + 128) ∷ []) (rest / 128)
one_appended n written rest s h = go s.more s.places s.low s.whole
  where
    go : (more : ℕ) → more + length written ≡ 18 → rest < 128 ^ suc more → written ++ digits_within more rest ≡ digits n → IsPartly n (written ++ (rest % 128 + 128) ∷ []) (rest / 128)
    go zero p l e = absurd (omega arith)
    go (suc more) p l e =
        let q : 128 ^ suc (suc more) ≡ 128 * 128 ^ suc more = pow-succ' 128 (suc more) in
        record {
          more = more;
          places = omega (arith, length-append written ((rest % 128 + 128) ∷ []));
          low = omega arith;
          whole = append_assoc written ((rest % 128 + 128) ∷ []) (digits_within more (rest / 128))
              ∙ (ap (λ (l : List ℕ). written ++ l) (sym (more_digits more rest h)) ∙ e);
        }

-- A rest below 128 is the last digit.
all_appended : (n : ℕ) (written : List ℕ) (rest : ℕ) → IsPartly n written rest → rest < 128 → written ++ rest ∷ [] ≡ digits n
all_appended n written rest s h = ap (λ (l : List ℕ). written ++ l) (sym (one_digit s.more rest h)) ∙ s.whole

-- The first len bytes of out are the first digits of n, and out has room for all of its digits.
pub record IsBegun (n : ℕ) (out : List ℕ) (len rest : ℕ) : Type 0 where
  pub so_far : IsPartly n (take len out) rest
  pub within : len ≤ length out
  pub room : length (digits n) ≤ length out

-- At the start no byte is written.
pub none_written : (n : ℕ) (out : List ℕ) → n < 2 ^ 128 → length (digits n) ≤ length out → IsBegun n out 0 n
none_written n out h r = record { so_far = none_appended n h; within = omega arith; room = r }

-- A number has at least one digit.
some_digits : (more rest : ℕ) → rest < 128 ^ suc more → 1 ≤ length (digits_within more rest)
some_digits more rest h = go (digits_within more rest) (AreDigits-digits_within more rest h)
  where
    go : (p : List ℕ) → AreDigits p → 1 ≤ length p
    go [] d = absurd d
    go (a ∷ p) d = omega arith

-- The buffer has a place for the next digit.
pub has_room : (n : ℕ) (out : List ℕ) (len rest : ℕ) → IsBegun n out len rest → len < length out
has_room n out len rest s =
    let p = s.so_far in
    omega (arith, s.room, some_digits p.more rest p.low, ap length p.whole, length-append (take len out) (digits_within p.more rest), length-take-le len out s.within)

-- Writing one more digit to the buffer leaves rest / 128.
pub one_written : (n : ℕ) (out : List ℕ) (len rest : ℕ) → IsBegun n out len rest → 128 ≤ rest → IsBegun n (set out len (rest % 128 + 128)) (len + 1) (rest / 128)
one_written n out len rest s h =
    let k = has_room n out len rest s in
    let e = take_more_set out len (rest % 128 + 128) k in
    record {
      so_far = subst (λ (l : List ℕ). IsPartly n l (rest / 128)) (sym e) (one_appended n (take len out) rest s.so_far h);
      within = rw length-set (omega arith);
      room = rw length-set s.room;
    }

-- With its last digit written, the front of the buffer is all digits of n.
pub all_written : (n : ℕ) (out : List ℕ) (len rest : ℕ) → IsBegun n out len rest → rest < 128 → take (len + 1) (set out len rest) ≡ digits n
all_written n out len rest s h = take_more_set out len rest (has_room n out len rest s) ∙ all_appended n (take len out) rest s.so_far h

-- The next byte as the code computes it is the last seven bits with the high bit set.
digit_bits : (n : ℕ) → bit_or (bit_and n 127) 128 ≡ n % 128 + 128
digit_bits n =
    let m : bit_and n 127 ≡ n % 128 = and_mask n 7 in
    let s : bit_or 128 (n % 128) ≡ 128 + n % 128 = or_shifted 1 7 (n % 128) (omega arith) in
    rw m (or_comm (n % 128) 128 ∙ (s ∙ omega arith))

-- Writing one more digit, as the code computes it, leaves rest / 128.
pub one_written_bits : (n : ℕ) (out : List ℕ) (len rest : ℕ) → IsBegun n out len rest → 128 ≤ rest → IsBegun n (set out len (bit_or (bit_and rest 127) 128)) (len + 1) (rest / 128)
one_written_bits n out len rest s h = rw (digit_bits rest) (one_written n out len rest s h)

-- A number below 128 ^ (j + 1) has at most j + 1 digits.
few : (j n : ℕ) → n < 128 ^ suc j → length (digits n) ≤ suc j
unfolding digits
few j n h = length-digits_within 18 j n h

-- A number of 16 bits has at most 3 digits.
pub few_16 : (n : ℕ) → n < 2 ^ 16 → length (digits n) ≤ 3
few_16 n h = few 2 n (omega arith)

-- A number of 32 bits has at most 5 digits.
pub few_32 : (n : ℕ) → n < 2 ^ 32 → length (digits n) ≤ 5
few_32 n h = few 4 n (omega arith)

-- A number of 64 bits has at most 10 digits.
pub few_64 : (n : ℕ) → n < 2 ^ 64 → length (digits n) ≤ 10
few_64 n h = few 9 n (omega arith)

-- A number of 128 bits has at most 19 digits.
pub few_128 : (n : ℕ) → n < 2 ^ 128 → length (digits n) ≤ 19
few_128 n h = few 18 n (omega arith)

-- The greatest number of a width has the greatest number of digits of that width.
pub reached : (w : ℕ) → IsWidth w → length (digits (2 ^ w - 1)) ≡ max_digits w
unfolding digits
reached w (inl e) = rw e refl
reached w (inr (inl e)) = rw e refl
reached w (inr (inr (inl e))) = rw e refl
reached w (inr (inr (inr e))) = rw e refl

-- Writing the byte at a place leaves the bytes after it unchanged.
pub after_kept : (out old : List ℕ) (len x : ℕ) → drop len out ≡ drop len old → drop (len + 1) (set out len x) ≡ drop (len + 1) old
after_kept out old len x e = drop-set-lt (len + 1) out len x (omega arith) ∙ (sym (drop-drop 1 len out) ∙ (ap (λ (l : List ℕ). drop 1 l) e ∙ drop-drop 1 len old))

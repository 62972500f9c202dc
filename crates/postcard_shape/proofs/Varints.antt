-- Numbers that were read from their digits, one and many.
use Rattle.std.proofs.Common.{◌≡◌, ℕ, suc, ◌+◌, ◌<◌, ◌≤◌, ◌^◌, inl, inr, List, [], ◌∷◌, ◌++◌, length, take, get_or, set, ℤ, refl, sym, ap, subst, arith, length-append}
use Rattle.std.proofs.lemmas.Grind.{take-set_at, take_at_read}
use Rattle.postcard_wire.specs.Number.{max_digits, number, zigzag, SpellsNum, AreDigits}
use Rattle.postcard_wire.specs.Tree.{Num, Int, NoTrees, Then, IsWidth}
use Rattle.postcard_wire.specs.Words.{IsCut, AreCut, IsNarrow}
use Rattle.postcard_wire.proofs.Ranged.{in_range}
use Rattle.postcard_shape.specs.Leaves.{num, int}
use Rattle.postcard_shape.specs.Runs.{IsValue, AreValuesOf}
use Rattle.postcard_shape.specs.Shape.{Shape}
use Rattle.postcard_shape.specs.Lists.{AreValues, Appends}

-- The bytes of a cut number spell it.
spelled : (w d n : ℕ) (p : List ℕ) → IsCut w p d → number p ≡ n → SpellsNum w n p
spelled w d n p c e = record { digits = c.digits; count = c.count; value = e }

-- A cut number as a value.
pub num_value : (w : ℕ) (h : IsWidth w) (d n : ℕ) (p : List ℕ) → IsCut w p d → n ≡ number p → IsValue (num w h) p n
num_value w h d n p c e = (Num w n, (n, refl, subst (λ (m : ℕ). m < 2 ^ w) (sym e) c.low), spelled w d n p c (sym e), refl)

-- A cut number as the zigzag encoding of a value.
pub int_value : (w : ℕ) (h : IsWidth w) (d : ℕ) (z : ℤ) (p : List ℕ) → IsCut w p d → zigzag z ≡ number p → IsValue (int w h) p z
int_value w h d z p c e =
    (Int w z, (z, refl, in_range w z h (subst (λ (m : ℕ). m < 2 ^ w) (sym e) c.low)), spelled w d (zigzag z) p c (sym e), refl)

-- One value more.
pub one_more_value : {V : Type 0} (w : ℕ) (s : Shape V) (ds : List ℕ) (vs : List V) (d : ℕ) (v : V) →
    AreValuesOf w s ds vs → ((p : List ℕ) → IsCut w p d → IsValue s p v) → AreValuesOf w s (ds ++ d ∷ []) (vs ++ v ∷ [])
one_more_value w s [] [] d v a h = (h, tt)
one_more_value w s [] (x ∷ vs) d v a h = absurd a
one_more_value w s (e ∷ ds) [] d v a h = absurd a
one_more_value w s (e ∷ ds) (x ∷ vs) d v a h = (a.0, one_more_value w s ds vs d v a.1 h)

-- One value more within a loop over a row.
pub row_goes_on : {V : Type 0} (w : ℕ) (s : Shape V) (ds : List ℕ) (vs : List V) (i : ℕ) (v : V) →
    i < length ds → i < length vs → AreValuesOf w s (take i ds) (take i vs) →
    ((p : List ℕ) → IsCut w p (get_or ds i 0) → IsValue s p v) → AreValuesOf w s (take (i + 1) ds) (take (i + 1) (set vs i v))
row_goes_on w s ds vs i v h k a one =
    rw ((take_at_read ds i 0 h).1, take-set_at vs i (i + 1) v refl k)
    (one_more_value w s (take i ds) (take i vs) (get_or ds i 0) v a one)

-- The values of numbers that were cut are the values that the bytes encode.
pub values_of : {V : Type 0} (w : ℕ) (s : Shape V) (ds : List ℕ) (vs : List V) (p : List ℕ) →
    AreValuesOf w s ds vs → AreCut w ds p → AreValues s.reads s.value p vs
values_of w s [] [] p a e = (NoTrees, tt, e, tt)
values_of w s [] (v ∷ vs) p a e = absurd a
values_of w s (d ∷ ds) [] p a e = absurd a
values_of w s (d ∷ ds) (v ∷ vs) p a (x, y, c, r, e) =
    let one = a.0 x c in
    let rest = values_of w s ds vs y a.1 r in
    (Then one.0 rest.0, (one.1, rest.1), (x, y, one.2, rest.2, e), (one.3, rest.3))

-- A byte below 128 is a number of one digit.
one_byte : (w : ℕ) → IsNarrow w → (b : ℕ) → b < 128 → IsCut w (b ∷ []) b
one_byte w n b h =
    let wide = enough w n in
    record {
      digits = h;
      count = wide.0;
      few = omega arith;
      low = omega (arith, wide.1);
      spread = omega arith;
    }
  where
    enough : (w : ℕ) → IsNarrow w → (1 ≤ max_digits w) × (128 ≤ 2 ^ w)
    enough w (inl e) = rw e (omega arith, omega arith)
    enough w (inr (inl e)) = rw e (omega arith, omega arith)
    enough w (inr (inr e)) = rw e (omega arith, omega arith)

-- Bytes below 128 are numbers of one digit each.
pub bytes_cut : (w : ℕ) → IsNarrow w → (u : List ℕ) → ((k : ℕ) → k < length u → get_or u k 0 < 128) → AreCut w u u
bytes_cut w n [] h = refl
bytes_cut w n (b ∷ u) h =
    (b ∷ [], u, one_byte w n b (h 0 (omega arith)), bytes_cut w n u (λ k l. h (suc k) (omega arith)), refl)

-- There are as many values as digits.
pub as_many : {V : Type 0} (w : ℕ) (s : Shape V) (ds : List ℕ) (vs : List V) → AreValuesOf w s ds vs → length vs ≡ length ds
as_many w s [] [] a = refl
as_many w s [] (v ∷ vs) a = absurd a
as_many w s (d ∷ ds) [] a = absurd a
as_many w s (d ∷ ds) (v ∷ vs) a = ap suc (as_many w s ds vs a.1)

-- Each number has a byte at least.
pub cut_bytes : (w : ℕ) (ds p : List ℕ) → AreCut w ds p → length ds ≤ length p
cut_bytes w [] p e = omega arith
cut_bytes w (d ∷ ds) p (x, y, c, r, e) =
    let some = digit_bytes x c.digits in
    let more = cut_bytes w ds y r in
    omega (arith, some, more, ap (λ (z : List ℕ). length z) e, length-append x y)
  where
    digit_bytes : (x : List ℕ) → AreDigits x → 0 < length x
    digit_bytes [] h = absurd h
    digit_bytes (b ∷ x) h = omega arith

-- What a row of numbers appends.
pub row_appended : {V : Type 0} (w bits : ℕ) (s : Shape V) (ds : List ℕ) (vs old new : List V) (most n : ℕ) (block bytes : List ℕ) →
    bits ≡ w → AreValuesOf w s ds vs → AreCut bits ds (take n block) → take n block ≡ take n bytes → 0 < length ds →
    length ds ≤ most → new ≡ old ++ vs → Appends s.reads s.value most (take n bytes) old new
row_appended w bits s ds vs old new most n block bytes b a cut same some few e =
    let many = as_many w s ds vs a in
    (vs, rw same at (values_of w s ds vs (take n block) a (rw b at cut)), omega (arith, many, some), omega (arith, many, few), e)

-- The search for the first zero, block by block.
use Rattle.std.proofs.Common.{◌≡◌, ℕ, suc, zero, ◌+◌, ◌*◌, ◌<◌, ◌≤◌, List, [], ◌∷◌, ◌++◌, length}
use Rattle.std.proofs.Common.{take, map, min, ltb, ◌-◌}
use Rattle.std.proofs.Common.{drop, refl, sym, ap, subst, ◌∙◌, arith, cond, eqb, Bool, true, false}
use Rattle.std.specs.List.{prefix_len}
use Rattle.std.specs.Simd.Lanes.{mask_l}
use mathlib.Core.Bool.{not}
use Rattle.std.proofs.lemmas.Bool.{eqb-true, eqb-false, ne_eqb, ltb-true, ltb-false}
use Rattle.std.proofs.lemmas.List.{take-append-drop, take-take, drop-take, take_all, length-drop}
use Rattle.std.proofs.lemmas.List.{length-take-le}
use Rattle.postcard_cobs.specs.Groups.{NoZero, before_zero}
use Rattle.postcard_cobs.proofs.Decoding.{before_zero_front, before_zero_none, NoZero-take}
use Rattle.postcard_cobs.proofs.Made.{NoZero-append}

-- As many bytes come before the first zero as pass the test for another byte.
pub counted : (xs : List ℕ) → prefix_len (λ x. not (eqb x 0)) xs ≡ length (before_zero xs)
counted [] = refl
counted (b ∷ xs) = at_zero (eqb b 0) (counted xs) where
  at_zero : (t : Bool) → prefix_len (λ x. not (eqb x 0)) xs ≡ length (before_zero xs)
      → cond (not t) (1 + prefix_len (λ x. not (eqb x 0)) xs) 0
      ≡ length (cond t [] (b ∷ before_zero xs))
  at_zero true deep = refl
  at_zero false deep = omega (arith, deep)

-- If no bit is set for a zero, there is none.
pub free_by_bits : (xs : List ℕ) → mask_l (map (λ x. eqb x 0) xs) ≡ 0 → NoZero xs
free_by_bits [] e = tt
free_by_bits (x ∷ xs) e = at_zero (eqb x 0) refl e (free_by_bits xs) where
  at_zero : (t : Bool) → eqb x 0 ≡ t → cond t 1 0 + 2 * mask_l (map (λ x. eqb x 0) xs) ≡ 0
      → (mask_l (map (λ x. eqb x 0) xs) ≡ 0 → NoZero xs) → NoZero (x ∷ xs)
  at_zero true is e deep = absurd (omega (arith, e))
  at_zero false is e deep =
      let ne = eqb-false x 0 is in (omega (arith, ne), deep (omega (arith, e)))

-- If there is no zero, no bit is set for one.
pub bits_of_free : (xs : List ℕ) → NoZero xs → mask_l (map (λ x. eqb x 0) xs) ≡ 0
bits_of_free [] z = refl
bits_of_free (x ∷ xs) z =
    let is : eqb x 0 ≡ false = ne_eqb x 0 (λ e. omega (arith, z.0)) in
    let deep = bits_of_free xs z.1 in
    rw is (omega (arith, deep))

-- Bytes without a zero come before the first zero.
pub passed : (k : ℕ) (xs : List ℕ) → k ≤ length xs → NoZero (take k xs)
    → length (before_zero xs) ≡ k + length (before_zero (drop k xs))
passed zero xs l z = omega arith
passed (suc k) [] l z = absurd (omega (arith, l))
passed (suc k) (x ∷ xs) l z = at_zero (eqb x 0) refl (passed k xs (omega (arith, l)) z.1) where
  at_zero : (t : Bool) → eqb x 0 ≡ t → length (before_zero xs) ≡ k + length (before_zero (drop k xs))
      → length (cond t [] (x ∷ before_zero xs)) ≡ suc k + length (before_zero (drop k xs))
  at_zero true e deep = let is = eqb-true x 0 e in absurd (omega (arith, is, z.0))
  at_zero false e deep = omega (arith, deep)

-- A zero in a front is the first one.
in_front : (k : ℕ) (xs : List ℕ) → length (before_zero (take k xs)) < k → k ≤ length xs
    → length (before_zero (take k xs)) ≡ length (before_zero xs)
in_front zero xs f l = absurd (omega (arith, f))
in_front (suc k) [] f l = absurd (omega (arith, l))
in_front (suc k) (x ∷ xs) f l = at_zero (eqb x 0) f (in_front k xs) where
  at_zero : (t : Bool) → length (cond t [] (x ∷ before_zero (take k xs))) < suc k
      → (length (before_zero (take k xs)) < k → k ≤ length xs
      → length (before_zero (take k xs)) ≡ length (before_zero xs))
      → length (cond t [] (x ∷ before_zero (take k xs))) ≡ length (cond t [] (x ∷ before_zero xs))
  at_zero true f deep = refl
  at_zero false f deep = let d = deep (omega (arith, f)) (omega (arith, l)) in omega (arith, d)

-- A zero in the block after bytes without a zero is the first one.
pub found : (xs : List ℕ) (n k r : ℕ) → n + k ≤ length xs → NoZero (take n xs)
    → r ≡ length (before_zero (take k (drop n xs))) → r < k → n + r ≡ length (before_zero xs)
found xs n k r l z e f =
    let p = passed n xs (omega (arith, l)) z in
    let b = in_front k (drop n xs) (omega (arith, e, f)) (omega (arith, l, length-drop n xs)) in
    omega (arith, p, b, e)

-- At most all bytes of a block come before its first zero.
pub at_most : (xs : List ℕ) (k : ℕ) → k ≤ length xs → length (before_zero (take k xs)) ≤ k
at_most xs k l =
    let long = length-take-le k xs l in
    let most = (before_zero_front (take k xs)).0 in
    omega (arith, long, most)

-- A block in which no zero was found has none.
pub none_in : (xs : List ℕ) (k r : ℕ) → k ≤ length xs → r ≡ length (before_zero (take k xs)) → k ≤ r
    → NoZero (take k xs)
none_in xs k r l e f =
    let long = length-take-le k xs l in
    let most = (before_zero_front (take k xs)).0 in
    before_zero_none (take k xs) (omega (arith, long, most, e, f))

-- In a block that has a zero, one is found.
pub some_in : (xs : List ℕ) (k r : ℕ) → k ≤ length xs → r ≡ length (before_zero (take k xs))
    → (NoZero (take k xs) → ⊥) → r < k
some_in xs k r l e some = at_end (eqb r k) refl where
  at_end : (t : Bool) → eqb r k ≡ t → r < k
  at_end true f = absurd (some (none_in xs k r l e (omega (arith, eqb-true r k f))))
  at_end false f =
      let m = at_most xs k l in let n = eqb-false r k f in omega (arith, m, n, e)

-- Two blocks without a zero, one after the other, have none.
pub none_on : (xs : List ℕ) (n k : ℕ) → NoZero (take n xs) → NoZero (take k (drop n xs))
    → NoZero (take (n + k) xs)
none_on xs n k a b =
    let joined : take n xs ++ take k (drop n xs) ≡ take (n + k) xs =
    ap (λ (x : List ℕ). x ++ take k (drop n xs)) (sym (take-take n (n + k) xs (omega arith)))
    ∙ ap (λ (x : List ℕ). take n (take (n + k) xs) ++ x) (sym (drop-take n k xs))
    ∙ take-append-drop n (take (n + k) xs) in
    subst NoZero joined (NoZero-append (take n xs) (take k (drop n xs)) a b)

-- What is found in the last block, which may overlap bytes without a zero.
pub in_last : (xs : List ℕ) (last k n r : ℕ) → last + k ≡ length xs → last ≤ n
    → NoZero (take n xs) → r ≡ length (before_zero (take k (drop last xs)))
    → last + r ≡ length (before_zero xs)
in_last xs last k n r l le z e =
    let front = subst NoZero (take-take last n xs le) (NoZero-take last (take n xs) z) in
    let p = passed last xs (omega (arith, l)) front in
    let whole = take_all k (drop last xs) (omega (arith, l, length-drop last xs)) in
    let b = ap (λ (x : List ℕ). length (before_zero x)) whole in
    omega (arith, p, b, e)

-- What is found in the block where a search for a block with a zero stops, or in the last block.
pub at_stop : (xs : List ℕ) (k n at r : ℕ) → k ≤ length xs → n ≤ length xs → NoZero (take n xs)
    → (n + k < length xs → NoZero (take k (drop n xs)) → ⊥) → at ≡ min n (length xs - k)
    → r ≡ length (before_zero (take k (drop at xs))) → at + r ≡ length (before_zero xs)
at_stop xs k n at r l w z stops is e = by_order (ltb (n + k) (length xs)) refl where
  by_order : (t : Bool) → ltb (n + k) (length xs) ≡ t → at + r ≡ length (before_zero xs)
  by_order true o =
      let lt : n + k < length xs = ltb-true (n + k) (length xs) o in
      let here : at ≡ n = omega (arith, is) in
      let block = subst (λ (i : ℕ). r ≡ length (before_zero (take k (drop i xs)))) here e in
      let some = some_in (drop n xs) k r (omega (arith, length-drop n xs)) block (stops lt) in
      let f = found xs n k r (omega arith) z block some in
      omega (arith, here, f)
  by_order false o =
      let le : length xs ≤ n + k = ltb-false (n + k) (length xs) o in
      in_last xs at k n r (omega (arith, is)) (omega (arith, is)) z e

-- Bytes are free of zeros if their first k and their last k are, which together are all.
pub free_ends : (xs : List ℕ) (k last : ℕ) → last + k ≡ length xs → length xs ≤ k + k
    → NoZero (take k xs) → NoZero (take k (drop last xs)) → NoZero xs
free_ends xs k last l s a b =
    let front = subst NoZero (take-take last k xs (omega (arith, l, s))) (NoZero-take last (take k xs) a) in
    subst NoZero (take_all (last + k) xs (omega (arith, l))) (none_on xs last k front b)

-- Bytes without a zero come before the first zero, or the end.
pub all_before : (xs : List ℕ) → NoZero xs → length (before_zero xs) ≡ length xs
all_before [] z = refl
all_before (x ∷ xs) z =
    let is : eqb x 0 ≡ false = ne_eqb x 0 (λ e. omega (arith, z.0)) in
    let deep = all_before xs z.1 in
    rw is (omega (arith, deep))

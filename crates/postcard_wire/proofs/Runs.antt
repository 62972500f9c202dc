-- Numbers cut from bytes one after the other, and the mask of the bytes that end one.
use Rattle.std.proofs.Common.{◌≡◌, ℕ, zero, suc, ◌+◌, ◌<◌, ◌≤◌, ◌^◌, Bool, true, false, cond, List, [], ◌∷◌, ◌++◌, length, take, drop, get_or, set, refl, sym, ap, arith, append_assoc, append-nil}
use Rattle.std.specs.Prelude.{map}
use Rattle.std.proofs.Math.Nat.{pow-suc}
use Rattle.std.proofs.Math.Seq.{take-add}
use Rattle.std.proofs.lemmas.Grind.{take-set_at}
use lib.Lanes.{mask_l}
use lib.Dec.{ltb}
use borrow.Author.Tests.{ltb-true}
use Rattle.postcard_wire.specs.Words.{IsCut, AreCut}

-- One number more, after those that were cut.
pub one_more_cut : (w : ℕ) (ds : List ℕ) (d : ℕ) (p x : List ℕ) → AreCut w ds p → IsCut w x d → AreCut w (ds ++ d ∷ []) (p ++ x)
one_more_cut w [] d p x e c = rw e (x, [], c, refl, sym (append-nil x))
one_more_cut w (a ∷ ds) d p x (y, z, c, r, e) k =
    rw e (y, z ++ x, c, one_more_cut w ds d z x r k, append_assoc y z x)

-- Fewer of the first bytes.
pub take_fewer : (n m : ℕ) (xs : List ℕ) → n ≤ m → take n (take m xs) ≡ take n xs
take_fewer zero m xs h = refl
take_fewer (suc n) zero xs h = absurd (omega arith)
take_fewer (suc n) (suc m) [] h = refl
take_fewer (suc n) (suc m) (x ∷ xs) h = ap (λ (ys : List ℕ). x ∷ ys) (take_fewer n m xs (omega arith))

-- One number more within the loop: its bytes are those after the ones taken so far.
pub goes_on_cut : (w : ℕ) (digits : List ℕ) (i : ℕ) (block : List ℕ) (from len to d : ℕ) → i < length digits →
    len ≤ 8 → from + len ≡ to → AreCut w (take i digits) (take from block) →
    IsCut w (take len (take 8 (drop from block))) d →
    AreCut w (take (i + 1) (set digits i d)) (take to block)
goes_on_cut w digits i block from len to d h few e so one =
    let more = one_more_cut w (take i digits) d (take from block) (take len (drop from block)) so
    (rw (take_fewer len 8 (drop from block) few) at one) in
    rw (sym e, take-add from len block, take-set_at digits i (i + 1) d refl h) more

-- If each bit of the mask is set, each byte is below 128.
pub all_low : (xs : List ℕ) → suc (mask_l (map (λ x. ltb x 128) xs)) ≡ 2 ^ length xs → (k : ℕ) → k < length xs → get_or xs k 0 < 128
all_low [] e k h = absurd (omega arith)
all_low (x ∷ xs) e k h = go (all_low xs) (ltb x 128) refl k h
  where
    go : (suc (mask_l (map (λ y. ltb y 128) xs)) ≡ 2 ^ length xs → (k : ℕ) → k < length xs → get_or xs k 0 < 128) →
        (b : Bool) → ltb x 128 ≡ b → (k : ℕ) → k < suc (length xs) → get_or (x ∷ xs) k 0 < 128
    go next true s zero h = ltb-true x 128 s
    go next true s (suc k) h =
        let one : ℕ = 1 in let q = ap (λ c. cond c one 0) s in
        let p = pow-suc 2 (length xs) in
        next (omega (arith, e, p, q)) k (omega arith)
    go next false s k h =
        let one : ℕ = 1 in let q = ap (λ c. cond c one 0) s in
        let p = pow-suc 2 (length xs) in
        absurd (omega (arith, e, p, q))

-- Bytes written at a place of a buffer, and bytes read from a place on.
use Rattle.std.proofs.Common.{◌≡◌, ◌∙◌, ℕ, ◌+◌, ◌≤◌, List, ◌++◌, length, take, drop, sym, ap, ap₂, arith}
use Rattle.std.proofs.Common.{append_assoc, append-nil, length-append, ◌-◌, ◌<◌, ◌^◌, []}
use Rattle.std.proofs.lemmas.List.{length-take-le, length-drop, take_all, drop-drop, take-append-drop}
use Rattle.std.proofs.Math.ListN.{drop_of_length-le}
use Rattle.std.proofs.Math.Seq.{drop-append-add, take-append_seam}
use Rattle.postcard_wire.proofs.Writing.{few_64}
use Rattle.postcard_wire.specs.Number.{digits}
use Rattle.postcard_c.specs.Writing.{WrittenAt}

-- What was written in two parts, one after the other, was written.
pub both_written : (p : ℕ) (h t old mid new : List ℕ) → p + length (h ++ t) ≤ length old
    → WrittenAt p h old mid → WrittenAt (p + length h) t mid new → WrittenAt p (h ++ t) old new
both_written p h t old mid new fits first second =
    let a : List ℕ = take p old in
    let d : List ℕ = drop (p + length h) old in
    let m : length a ≡ p = length-take-le p old (omega (arith, length-append h t)) in
    let n : length (a ++ h) ≡ p + length h = omega (arith, length-append a h, m) in
    let front : take (p + length h) mid ≡ a ++ h =
    ap (λ l. take (p + length h) l) first ∙ ap (λ k. take k ((a ++ h) ++ d)) (sym n)
    ∙ take-append_seam (a ++ h) d in
    let back : drop (p + length h + length t) mid ≡ drop (p + length (h ++ t)) old =
    ap (λ l. drop (p + length h + length t) l) first
    ∙ ap (λ k. drop (k + length t) ((a ++ h) ++ d)) (sym n)
    ∙ drop-append-add (a ++ h) d (length t) ∙ drop-drop (length t) (p + length h) old
    ∙ ap (λ k. drop k old) (omega (arith, length-append h t)) in
    second ∙ ap₂ (λ x y. (x ++ t) ++ y) front back
    ∙ ap (λ l. l ++ drop (p + length (h ++ t)) old) (append_assoc a h t)

-- A number's digits d, written over the front of the bytes from a place on.
pub number_written : (p r : ℕ) (old out d : List ℕ) → p ≤ length old → r ≤ length out
    → take r out ≡ d → drop r out ≡ drop r (take (length old - p) (drop p old))
    → WrittenAt p d old (take p old ++ (out ++ drop (length old - p) (drop p old)))
number_written p r old out d within few written kept =
    let n : length d ≡ r = ap length (sym written) ∙ length-take-le r out few in
    let whole : take (length old - p) (drop p old) ≡ drop p old =
    take_all (length old - p) (drop p old) (omega (arith, length-drop p old)) in
    let none : drop (length old - p) (drop p old) ≡ [] =
    drop_of_length-le (drop p old) (omega (arith, length-drop p old)) in
    let tail : drop r out ≡ drop (p + length d) old =
    kept ∙ ap (λ l. drop r l) whole ∙ drop-drop r p old ∙ ap (λ k. drop (p + k) old) (sym n) in
    ap (λ l. take p old ++ l)
    (ap (λ l. out ++ l) none ∙ append-nil out ∙ sym (take-append-drop r out)
    ∙ ap₂ (λ x y. x ++ y) written tail)
    ∙ sym (append_assoc (take p old) d (drop (p + length d) old))

-- The digits of a number of 64 bits have room in ten bytes.
pub ten_fit : (n p : ℕ) (old : List ℕ) → n < 2 ^ 64 → p + 10 ≤ length old
    → length (digits n) ≤ length (take (length old - p) (drop p old))
ten_fit n p old h room =
    let whole : take (length old - p) (drop p old) ≡ drop p old =
    take_all (length old - p) (drop p old) (omega (arith, length-drop p old)) in
    rw whole (omega (arith, length-drop p old, few_64 n h))

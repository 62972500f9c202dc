-- A message and its checksum, cut where the checksum begins.
use Rattle.std.proofs.Common.{◌≡◌, ℕ, ◌-◌, ◌<◌, ◌≤◌, List, ◌++◌, length, take, drop, ap, ◌∙◌, length-append, take_all, arith}
use Rattle.std.proofs.lemmas.List.{take-append-le}
use Rattle.std.proofs.Math.Seq.{drop-append_seam}
use Rattle.crc.specs.Checked.{low_bytes}
use Rattle.crc.proofs.CheckedLemmas.{length_low}

-- The bytes before `rest` are `front`.
pub front_of : (bytes front rest : List ℕ) → bytes ≡ front ++ rest → take (length bytes - length rest) bytes ≡ front
front_of bytes front rest e =
    let n : length bytes - length rest ≡ length front = omega (arith, ap length e, length-append front rest) in
    let le : length front ≤ length front = omega arith in
    ap (λ k. take k bytes) n ∙ ap (take (length front)) e ∙ take-append-le (length front) front rest le ∙ take_all (length front) front le

-- If `rest` is the bytes `wanted` and then the bytes `after`, it begins with `wanted`,
pub begins_with : (wanted after rest : List ℕ) → rest ≡ wanted ++ after → take (length wanted) rest ≡ wanted
begins_with wanted after rest e =
    let le : length wanted ≤ length wanted = omega arith in
    ap (take (length wanted)) e ∙ take-append-le (length wanted) wanted after le ∙ take_all (length wanted) wanted le

-- and `after` follows.
pub follows : (wanted after rest : List ℕ) → rest ≡ wanted ++ after → drop (length wanted) rest ≡ after
follows wanted after rest e = ap (drop (length wanted)) e ∙ drop-append_seam wanted after

pub too_short : (k n : ℕ) (rest after : List ℕ) (crc : ℕ) → n ≡ k → length rest < n → rest ≡ low_bytes k crc ++ after → ⊥
too_short k n rest after crc size short is = omega (arith, ap length is, length-append (low_bytes k crc) after, length_low k crc)

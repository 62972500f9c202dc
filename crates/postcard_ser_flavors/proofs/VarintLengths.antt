-- The table of the lengths of varints.
use Rattle.std.proofs.Common.{◌≡◌, ℕ, zero, suc, ◌+◌, ◌-◌, ◌*◌, ◌/◌, ◌<◌, ◌^◌, Bool, true, List, [], ◌∷◌, length, get_or, bit_or, refl, ◌∙◌, arith}
use Rattle.std.specs.Prelude.{nat_eq, ◌&&◌}
use Rattle.std.proofs.lemmas.Bool.{and_parts, eqb-true}
use lib.Count.{count_leading_zeros}
use Rattle.postcard_wire.specs.Number.{digits}
use Rattle.postcard_wire.proofs.Lengths.{len_is}

-- The number of bytes of a varint whose number has its highest bit at place i.
abbrev at_place : ℕ → ℕ
at_place i = (i * 9 + 73) / 64

-- The items are these numbers, from place i on.
abbrev are_lengths : ℕ → List ℕ → Bool
are_lengths i [] = true
are_lengths i (n ∷ ns) = nat_eq n (at_place i) && are_lengths (suc i) ns

one_length : (i k : ℕ) (ns : List ℕ) → are_lengths i ns ≡ true → k < length ns →
    get_or ns k 0 ≡ at_place (i + k)
one_length i k [] h l = absurd (omega (arith, l))
one_length i zero (n ∷ ns) h l =
    let e : i + 0 ≡ i = omega arith in
    rw e (eqb-true n (at_place i) (and_parts (nat_eq n (at_place i)) (are_lengths (suc i) ns) h).0)
one_length i (suc k) (n ∷ ns) h l =
    let e : i + suc k ≡ suc i + k = omega arith in
    rw e (one_length (suc i) k ns (and_parts (nat_eq n (at_place i)) (are_lengths (suc i) ns) h).1 (omega (arith, l)))

abbrev pub lengths : List ℕ
lengths = 1 ∷ 1 ∷ 1 ∷ 1 ∷ 1 ∷ 1 ∷ 1 ∷ 2 ∷ 2 ∷ 2 ∷ 2 ∷ 2 ∷ 2 ∷ 2 ∷ 3 ∷ 3 ∷
    3 ∷ 3 ∷ 3 ∷ 3 ∷ 3 ∷ 4 ∷ 4 ∷ 4 ∷ 4 ∷ 4 ∷ 4 ∷ 4 ∷ 5 ∷ 5 ∷ 5 ∷ 5 ∷
    5 ∷ 5 ∷ 5 ∷ 6 ∷ 6 ∷ 6 ∷ 6 ∷ 6 ∷ 6 ∷ 6 ∷ 7 ∷ 7 ∷ 7 ∷ 7 ∷ 7 ∷ 7 ∷
    7 ∷ 8 ∷ 8 ∷ 8 ∷ 8 ∷ 8 ∷ 8 ∷ 8 ∷ 9 ∷ 9 ∷ 9 ∷ 9 ∷ 9 ∷ 9 ∷ 9 ∷ 10 ∷ []

-- The table has the number of digits, by the place of the highest bit of the number or 1.
pub length_at : (n : ℕ) → n < 2 ^ 64 →
    get_or lengths (63 - count_leading_zeros 64 (bit_or n 1)) 0 ≡ length (digits n)
length_at n h =
    let place = 63 - count_leading_zeros 64 (bit_or n 1) in
    let e : 0 + place ≡ place = omega arith in
    let few : place < 64 = omega arith in
    (rw e at (one_length 0 place lengths refl few)) ∙ len_is n h

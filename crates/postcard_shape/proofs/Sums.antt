-- The bytes of a number as std defines them are those of base 256, and so is their value, which std
-- defines as a sum over the places; at every width.
use Rattle.std.proofs.Common.{◌≡◌, ℕ, zero, suc, ◌+◌, ◌-◌, ◌*◌, ◌/◌, ◌%◌, ◌^◌, List, [], ◌∷◌, ◌++◌, length}
use Rattle.std.proofs.Common.{refl, sym, ap, ap₂, ◌∙◌, arith}
use Rattle.std.specs.Prelude.{reverse, slice_index}
use Rattle.std.specs.Int.{byte_at, bytes_low_first, byte_worth, sum_through}
use Rattle.std.proofs.Math.Nat.{pow-suc, mul_assoc, mul_comm, div-div-eq-div-mul}
use Rattle.std.proofs.lemmas.List.{reverse-append, length-reverse}
use Rattle.postcard_shape.specs.Base256.{low_first, low_value}

-- The byte at place i is the digit of 256 ^ i.
place : (i n : ℕ) → byte_at i n ≡ n / 256 ^ i % 256
place zero n = omega arith
place (suc i) n = refl

-- The bytes from place i on are those of the number divided by 256 ^ i.
places : (i k n : ℕ) → bytes_low_first i k n ≡ low_first k (n / 256 ^ i)
places i zero n = refl
places i (suc k) n =
    let power = ap (λ m. n / m) (pow-suc 256 i) in
    let next : n / 256 ^ suc i ≡ n / 256 ^ i / 256 =
    power ∙ sym (div-div-eq-div-mul n (256 ^ i) 256) in
    ap₂ (λ b bs. b ∷ bs) (place i n) (places (suc i) k n ∙ ap (low_first k) next)

-- std's lowest k bytes of a number are its k bytes in base 256.
pub little_bytes : (k n : ℕ) → bytes_low_first 0 k n ≡ low_first k n
little_bytes k n = places 0 k n ∙ ap (low_first k) (omega arith)

-- A sum is its first term plus the sum of the others.
first_term : (f : ℕ → ℕ) (k : ℕ) → sum_through f (suc k) ≡ f 0 + sum_through (λ i. f (suc i)) k
first_term f zero = refl
first_term f (suc k) = let e = first_term f k in omega (arith, e)

-- Sums of equal terms are equal.
same_terms : (f g : ℕ → ℕ) (k : ℕ) → ((i : ℕ) → f i ≡ g i) → sum_through f k ≡ sum_through g k
same_terms f g zero e = e 0
same_terms f g (suc k) e = ap₂ (λ n m. n + m) (same_terms f g k e) (e (suc k))

-- The sum of 256 times each term is 256 times the sum.
scaled : (f : ℕ → ℕ) (k : ℕ) → sum_through (λ i. 256 * f i) k ≡ 256 * sum_through f k
scaled f zero = refl
scaled f (suc k) = let e = scaled f k in omega (arith, e)

-- A byte is worth 256 times what it is worth one place below.
next_place : (i b : ℕ) → byte_worth (suc i) b ≡ 256 * byte_worth i b
next_place zero b = omega arith
next_place (suc i) b =
    let power = ap (λ p. b * p) (pow-suc 256 (suc i)) in
    power ∙ sym (mul_assoc b (256 ^ suc i) 256) ∙ mul_comm (b * 256 ^ suc i) 256

-- With the lowest byte first, the sum of what each byte is worth at its place is the value in base
-- 256.
pub little_sum : (bs : List ℕ) (k : ℕ) → length bs ≡ suc k
    → sum_through (λ i. byte_worth i (slice_index bs i)) k ≡ low_value bs
little_sum [] k l = absurd (omega arith)
little_sum (b ∷ []) zero l = omega arith
little_sum (b ∷ c ∷ bs) zero l = absurd (omega arith)
little_sum (b ∷ []) (suc k) l = absurd (omega arith)
little_sum (b ∷ c ∷ bs) (suc k) l =
    let f : ℕ → ℕ = λ i. byte_worth i (slice_index (b ∷ c ∷ bs) i) in
    let g : ℕ → ℕ = λ i. byte_worth i (slice_index (c ∷ bs) i) in
    let up : (i : ℕ) → f (suc i) ≡ 256 * g i = λ i. next_place i (slice_index (c ∷ bs) i) in
    let rest = ap (λ n. 256 * n) (little_sum (c ∷ bs) k (omega arith)) in
    let higher = same_terms (λ i. f (suc i)) (λ i. 256 * g i) k up ∙ scaled g k ∙ rest in
    first_term f k ∙ ap (λ n. b + n) higher

-- A byte after others is worth that byte times 256 to the power of their number.
low_value-push : (bs : List ℕ) (b : ℕ)
    → low_value (bs ++ b ∷ []) ≡ low_value bs + b * 256 ^ length bs
low_value-push [] b = omega arith
low_value-push (c ∷ bs) b =
    let rest = low_value-push bs b in
    let turn = mul_comm 256 (b * 256 ^ length bs) ∙ mul_assoc b (256 ^ length bs) 256 in
    let power = ap (λ p. b * p) (sym (pow-suc 256 (length bs))) in
    let high : 256 * (b * 256 ^ length bs) ≡ b * 256 ^ suc (length bs) = turn ∙ power in
    omega (arith, rest, high)

-- With the highest byte first, the value is the first byte at the highest place plus the value of
-- the others.
highest : (b : ℕ) (bs : List ℕ)
    → low_value (reverse (b ∷ bs)) ≡ b * 256 ^ length bs + low_value (reverse bs)
highest b bs =
    let turned = ap low_value (reverse-append (b ∷ []) bs) ∙ low_value-push (reverse bs) b in
    let count = ap (λ n. low_value (reverse bs) + b * 256 ^ n) (length-reverse bs) in
    let e = turned ∙ count in
    omega (arith, e)

-- What a byte is worth at the highest place.
top_place : (k b : ℕ) → byte_worth (suc k - 0) b ≡ b * 256 ^ suc k
top_place k b = let e : suc k - 0 ≡ suc k = omega arith in ap (λ i. byte_worth i b) e

-- With the highest byte first, the sum of what each byte is worth at its place is the value in base
-- 256.
pub big_sum : (bs : List ℕ) (k : ℕ) → length bs ≡ suc k
    → sum_through (λ i. byte_worth (k - i) (slice_index bs i)) k ≡ low_value (reverse bs)
big_sum [] k l = absurd (omega arith)
big_sum (b ∷ []) zero l = omega arith
big_sum (b ∷ c ∷ bs) zero l = absurd (omega arith)
big_sum (b ∷ []) (suc k) l = absurd (omega arith)
big_sum (b ∷ c ∷ bs) (suc k) l =
    let f : ℕ → ℕ = λ i. byte_worth (suc k - i) (slice_index (b ∷ c ∷ bs) i) in
    let g : ℕ → ℕ = λ i. byte_worth (k - i) (slice_index (c ∷ bs) i) in
    let count : length (c ∷ bs) ≡ suc k = omega arith in
    let down : (i : ℕ) → f (suc i) ≡ g i = λ i.
    let e : suc k - suc i ≡ k - i = omega arith in
    ap (λ j. byte_worth j (slice_index (c ∷ bs) i)) e in
    let top = top_place k b ∙ ap (λ n. b * 256 ^ n) (sym count) in
    let lower = same_terms (λ i. f (suc i)) g k down ∙ big_sum (c ∷ bs) k count in
    first_term f k ∙ ap₂ (λ n m. n + m) top lower ∙ sym (highest b (c ∷ bs))

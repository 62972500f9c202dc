-- Bytes in pairs, each pair as one number of 16 bits, and back.
use Rattle.std.proofs.Common.{◌≡◌, ℕ, zero, suc, ◌+◌, ◌*◌, ◌/◌, ◌%◌, ◌<◌, List, [], ◌∷◌, length, refl, ap₂, arith}
use Rattle.std.specs.Prelude.{slice_index}
use Rattle.std.specs.Net.Addr.{octets_of, segments_of}

-- The octets of the segments of 2 n octets are these octets.
pub octets_back : (n : ℕ) (bs : List ℕ) → length bs ≡ n + n → ((k : ℕ) → slice_index bs k < 256)
    → octets_of (segments_of bs) ≡ bs
octets_back zero [] l r = refl
octets_back zero (a ∷ bs) l r = absurd (omega arith)
octets_back (suc n) [] l r = absurd (omega arith)
octets_back (suc n) (a ∷ []) l r = absurd (omega arith)
octets_back (suc n) (a ∷ b ∷ bs) l r =
    let below : b < 256 = r 1 in
    let high : (a * 256 + b) / 256 ≡ a = omega arith in
    let low : (a * 256 + b) % 256 ≡ b = omega arith in
    let rest = octets_back n bs (omega arith) (λ k. r (suc (suc k))) in
    ap₂ (λ (x : ℕ) (xs : List ℕ). x ∷ xs) high (ap₂ (λ (x : ℕ) (xs : List ℕ). x ∷ xs) low rest)

-- Bytes that were read to their end are a message with its checksum, so a burst in them was refused.
use Rattle.std.proofs.Common.{◌≡◌, ℕ, suc, ◌+◌, ◌-◌, ◌*◌, ◌<◌, List, [], ◌∷◌, ◌++◌, get_or, sym, ap, subst, ◌∙◌, append-nil, bit_xor, arith}
use Rattle.crc.specs.Crc.{Parameters, message}
use Rattle.crc.specs.Digest.{Progress, Took}
use Rattle.crc.specs.Checked.{low_bytes, AreBytes}
use Rattle.crc.specs.Damage.{IsBurst}
use Rattle.crc.proofs.CheckedLemmas.{no_burst_in_checked}
use Rattle.postcard_wire.specs.Tree.{Tree}
use Rattle.postcard_crc.specs.Reading.{ReadsChecked, IsDamaged}

-- The bytes of a slice are bytes.
pub are_bytes : (xs : List ℕ) → ((i : ℕ) → get_or xs i 0 < 256) → AreBytes xs
are_bytes [] h = tt
are_bytes (x ∷ xs) h = (h 0, are_bytes xs (λ i. h (suc i)))

pub not_damaged : {V : Type 0} (reads : Tree → Type 0) (value : Tree → V → Type 0) (k : ℕ) (d : Progress) (bytes : List ℕ) (v : V) (rest : List ℕ)
    → ReadsChecked reads value k d bytes v rest → AreBytes bytes → (a : Parameters) (sent : List ℕ) → Took d a [] → IsDamaged k a sent bytes
    → rest ≡ [] → sent ≡ bytes
not_damaged reads value k d bytes v rest r are a sent none damage end =
    let whole : bytes ≡ r.front ++ low_bytes k r.crc = r.joins ∙ ap (λ z. r.front ++ low_bytes k r.crc ++ z) end ∙ append-nil (r.front ++ low_bytes k r.crc) in
    let narrow = damage.narrow in
    let size : a.width + (8 * k - a.width) ≡ 8 * k = omega arith in
    let burst : IsBurst a.width (bit_xor (message a.refin sent) (message a.refin bytes)) = subst (λ o. IsBurst a.width (bit_xor (message o sent) (message o bytes))) (sym damage.refin) damage.burst in
    no_burst_in_checked a damage.sound k (8 * k - a.width) damage.refin damage.refout size sent bytes damage.length damage.are_bytes are damage.is_checked
    (record { bytes = r.front; crc = r.crc; is_crc = r.is_crc a [] none; joins = whole }) burst

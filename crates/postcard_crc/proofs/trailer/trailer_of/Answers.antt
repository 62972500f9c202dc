-- The trailer is the first bytes of the checksum as a number of 128 bits.
use Rattle.std.proofs.Common.{◌≡◌, ◌/◌, ◌≤◌, take, ap, ◌∙◌, arith}
use Rattle.crc.specs.Checked.{low_bytes}
use Rattle.postcard_crc.proofs.Bytes.{front_bytes}
use Rattle.postcard_crc.proofs.trailer.trailer_of.Goals as goal

pub returns-clause-bytes : goal.returns-clause-bytes
returns-clause-bytes g c =
    let k = g.W.Width.size in
    let count : c.bits.result / 8 ≡ k = omega (arith, c.bits.ensures.bits) in
    let few : k ≤ 16 = omega (arith, c.bits.ensures.bits, c.bits.ensures.few) in
    ap (λ j. take j c.to_le_bytes.result) count ∙ front_bytes k c.to_u128.result c.to_le_bytes.result c.to_le_bytes.ensures few
    ∙ ap (low_bytes k) c.to_u128.ensures.number

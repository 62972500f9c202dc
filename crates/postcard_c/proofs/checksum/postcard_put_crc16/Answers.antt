use Rattle.std.proofs.Common.{refl, subst}
use Rattle.crc.specs.Crc.{IsCrc}
use Rattle.postcard_c.specs.Checksums.{crc_16}
use Rattle.postcard_c.proofs.checksum.postcard_put_crc16.Goals as goal

pub returns : goal.returns
returns c = record {
  crc = c.postcard_crc16-crc.result;
  is_crc = subst (λ l. IsCrc crc_16 l c.postcard_crc16-crc.result) c.held.ensures (c.postcard_crc16-crc.ensures.whole refl);
  puts = c.postcard_put_u16_le.ensures;
}

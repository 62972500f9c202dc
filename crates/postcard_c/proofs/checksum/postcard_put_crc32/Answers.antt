use Rattle.std.proofs.Common.{refl, subst}
use Rattle.crc.specs.Crc.{IsCrc}
use Rattle.postcard_c.specs.Checksums.{crc_32}
use Rattle.postcard_c.proofs.checksum.postcard_put_crc32.Goals as goal

pub returns : goal.returns
returns c = record {
  crc = c.postcard_crc32-crc.result;
  is_crc = subst (λ l. IsCrc crc_32 l c.postcard_crc32-crc.result) c.held.ensures (c.postcard_crc32-crc.ensures.whole refl);
  puts = c.postcard_put_u32_le.ensures;
}

use Rattle.std.proofs.Common.{refl, subst}
use Rattle.crc.specs.Crc.{IsCrc}
use Rattle.postcard_c.specs.Checksums.{crc_32, TakesJust}
use Rattle.postcard_c.proofs.checksum.postcard_get_crc32.Goals as goal

pub returns : goal.returns
returns c = record {
  crc = c.postcard_crc32-crc.result;
  is_crc = subst (λ l. IsCrc crc_32 l c.postcard_crc32-crc.result) c.front_at.ensures (c.postcard_crc32-crc.ensures.whole refl);
  takes = subst (λ xs. TakesJust xs c.args.reader.now c.take_just.new.reader c.take_just.result) c.encode_le.ensures.bytes c.take_just.ensures;
}

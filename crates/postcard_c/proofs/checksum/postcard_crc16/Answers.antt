use Rattle.std.proofs.Common.{[], ◌++◌, subst, sym, ◌∙◌}
use Rattle.crc.specs.Crc.{IsCrc}
use Rattle.postcard_c.specs.Checksums.{crc_16}
use Rattle.postcard_c.proofs.Checksums.{reflects_16, none_16, low_bits_16}
use Rattle.postcard_c.proofs.checksum.postcard_crc16.Goals as goal

pub returns-clause-whole : goal.returns-clause-whole
returns-clause-whole c none =
    low_bits_16 c.args.bytes.now c.continued.result
    (c.continued.ensures crc_16 [] reflects_16 (subst (IsCrc crc_16 []) (sym (c.into.ensures ∙ none)) none_16))

pub returns-clause-continues : goal.returns-clause-continues
returns-clause-continues c m h =
    low_bits_16 (m ++ c.args.bytes.now) c.continued.result
    (c.continued.ensures crc_16 m reflects_16 (subst (IsCrc crc_16 m) (sym c.into.ensures) h))

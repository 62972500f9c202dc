use Rattle.std.proofs.Common.{[], subst, sym}
use Rattle.crc.specs.Crc.{IsCrc}
use Rattle.postcard_c.specs.Checksums.{crc_32}
use Rattle.postcard_c.proofs.Checksums.{reflects_32, none_32}
use Rattle.postcard_c.proofs.checksum.postcard_crc32.Goals as goal

pub returns-clause-whole : goal.returns-clause-whole
returns-clause-whole c none = c.continued.ensures crc_32 [] reflects_32 (subst (IsCrc crc_32 []) (sym none) none_32)

pub returns-clause-continues : goal.returns-clause-continues
returns-clause-continues c m h = c.continued.ensures crc_32 m reflects_32 h

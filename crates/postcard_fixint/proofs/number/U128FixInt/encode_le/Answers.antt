use Rattle.std.proofs.Common.{◌∙◌}
use Rattle.postcard_shape.proofs.Sums.{little_bytes}
use Rattle.postcard_fixint.proofs.number.U128FixInt.encode_le.Goals as goal

pub returns-clause-bytes : goal.returns-clause-bytes
returns-clause-bytes c = c.to_le_bytes.ensures ∙ little_bytes 16 c.args.self

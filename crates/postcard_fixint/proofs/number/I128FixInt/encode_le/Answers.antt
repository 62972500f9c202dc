use Rattle.std.proofs.Common.{◌∙◌}
use Rattle.std.specs.Int.{w128}
use Rattle.postcard_fixint.proofs.Bytes.{little_signed}
use Rattle.postcard_fixint.proofs.number.I128FixInt.encode_le.Goals as goal

pub returns-clause-bytes : goal.returns-clause-bytes
returns-clause-bytes c = c.to_le_bytes.ensures ∙ little_signed w128 c.args.self c.ranges.self

use Rattle.std.proofs.Common.{rules}
use Rattle.std.specs.Int.{w128}
use Rattle.postcard_fixint.proofs.Bytes.{little_value}
use Rattle.postcard_fixint.proofs.number.I128FixInt.decode_le.Goals as goal

pub returns-clause-value : goal.returns-clause-value
returns-clause-value c =
    little_value w128 _ c.args.bytes (search rules) (search rules) c.from_le_bytes.ensures

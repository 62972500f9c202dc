use Rattle.std.proofs.Common.{rules}
use Rattle.std.specs.Int.{w128}
use Rattle.postcard_fixint.proofs.Bytes.{big_value}
use Rattle.postcard_fixint.proofs.number.I128FixInt.decode_be.Goals as goal

pub returns-clause-value : goal.returns-clause-value
returns-clause-value c =
    big_value w128 _ c.args.bytes (search rules) (search rules) c.from_be_bytes.ensures

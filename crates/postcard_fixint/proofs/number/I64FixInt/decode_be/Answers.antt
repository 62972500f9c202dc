use Rattle.std.proofs.Common.{rules}
use Rattle.std.specs.Int.{w64}
use Rattle.postcard_fixint.proofs.Bytes.{big_value}
use Rattle.postcard_fixint.proofs.number.I64FixInt.decode_be.Goals as goal

pub returns-clause-value : goal.returns-clause-value
returns-clause-value c =
    big_value w64 _ c.args.bytes (search rules) (search rules) c.from_be_bytes.ensures

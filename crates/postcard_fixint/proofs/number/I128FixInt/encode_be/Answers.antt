use Rattle.std.proofs.Common.{◌∙◌, ap}
use Rattle.std.specs.Int.{w128}
use Rattle.std.specs.Prelude.{reverse}
use Rattle.postcard_fixint.proofs.Bytes.{little_signed}
use Rattle.postcard_fixint.proofs.number.I128FixInt.encode_be.Goals as goal

pub returns-clause-bytes : goal.returns-clause-bytes
returns-clause-bytes c =
    c.to_be_bytes.ensures ∙ ap reverse (little_signed w128 c.args.self c.ranges.self)

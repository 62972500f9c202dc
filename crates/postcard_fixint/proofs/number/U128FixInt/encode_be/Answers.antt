use Rattle.std.proofs.Common.{◌∙◌, ap}
use Rattle.std.specs.Prelude.{reverse}
use Rattle.postcard_shape.proofs.Sums.{little_bytes}
use Rattle.postcard_fixint.proofs.number.U128FixInt.encode_be.Goals as goal

pub returns-clause-bytes : goal.returns-clause-bytes
returns-clause-bytes c = c.to_be_bytes.ensures ∙ ap reverse (little_bytes 16 c.args.self)

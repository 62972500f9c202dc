use Rattle.std.proofs.Common.{inl, refl, arith}
use Rattle.postcard_shape.proofs.Varints.{num_value}
use Rattle.postcard_shape.proofs.runs.U16Varint.of_digits.Goals as goal

pub returns : goal.returns
returns c p cut =
    let same = c.number_of.ensures p cut in
    num_value 16 (inl refl) c.args.digits _ p cut (omega (arith, same, cut.low))

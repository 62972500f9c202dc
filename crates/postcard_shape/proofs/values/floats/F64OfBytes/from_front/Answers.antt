use Rattle.std.proofs.Common.{◌≡◌, ◌∙◌, length, take, ap}
use Rattle.std.proofs.lemmas.List.{length-take-le}
use Rattle.std.specs.Float.{binary64}
use Rattle.std.specs.Float.Ieee.{of_bits}
use Rattle.std.specs.Int.{w64, from_le_bytes}
use Rattle.postcard_shape.proofs.Floats.{f64_value}
use Rattle.postcard_shape.proofs.values.floats.F64OfBytes.from_front.Goals as goal

pub returns : goal.returns
returns c =
    let u = take 8 c.args.bytes.now in
    let long : length u ≡ 8 = length-take-le 8 c.args.bytes.now c.requires in
    let same = c.copy_from_slice.ensures.after ∙ c.in_range-front.ensures.same in
    let bits = c.from_le_bytes.ensures ∙ ap (from_le_bytes w64) same in
    let e = c.f64_from_bits_with_nan.ensures ∙ ap (of_bits binary64) bits in
    f64_value u _ long c.in_range-front.ensures.range e

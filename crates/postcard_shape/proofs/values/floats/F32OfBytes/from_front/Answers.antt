use Rattle.std.proofs.Common.{◌≡◌, ◌∙◌, length, take, ap}
use Rattle.std.proofs.lemmas.List.{length-take-le}
use Rattle.std.specs.Float.{binary32}
use Rattle.std.specs.Float.Ieee.{of_bits}
use Rattle.std.specs.Int.{w32, from_le_bytes}
use Rattle.postcard_shape.proofs.Floats.{f32_value}
use Rattle.postcard_shape.proofs.values.floats.F32OfBytes.from_front.Goals as goal

pub returns : goal.returns
returns c =
    let u = take 4 c.args.bytes.now in
    let long : length u ≡ 4 = length-take-le 4 c.args.bytes.now c.requires in
    let same = c.copy_from_slice.ensures.after ∙ c.in_range-front.ensures.same in
    let bits = c.from_le_bytes.ensures ∙ ap (from_le_bytes w32) same in
    let e = c.f32_from_bits_with_nan.ensures ∙ ap (of_bits binary32) bits in
    f32_value u _ long c.in_range-front.ensures.range e

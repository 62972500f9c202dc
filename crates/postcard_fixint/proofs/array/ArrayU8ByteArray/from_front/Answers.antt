use Rattle.std.proofs.Common.{◌≡◌, ◌∙◌, length, take}
use Rattle.std.proofs.lemmas.List.{length-take-le}
use Rattle.postcard_shape.proofs.Counted.{array_value}
use Rattle.postcard_fixint.proofs.array.ArrayU8ByteArray.from_front.Goals as goal

pub returns : goal.returns
returns g c =
    let n = g.row.N in
    let u = take n c.args.bytes.now in
    let long : length u ≡ n = length-take-le n c.args.bytes.now c.requires in
    rw (c.copy_from_slice.ensures.after ∙ c.in_range-front.ensures.same)
    (array_value n u long c.in_range-front.ensures.range)

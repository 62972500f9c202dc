-- If the function returns `true`, both types are varints of one sign, and the new one is at least as wide (`Varints`).
use Rattle.std.proofs.Common.{◌<◌, ◌≤◌, sym, ◌∙◌, arith}
use Rattle.postcard_schema.specs.Leaves.{size_of}
use Rattle.postcard_compat.proofs.Varints.{same_signs, wider_serves}
use Rattle.postcard_compat.proofs.numbers.varint_serves.Goals as goal

pub returns : goal.returns
returns c = λ yes.
    let old = c.args.old in
    let new = c.args.new in
    let big : 1 < size_of old = omega (arith, c.size.ensures, c.if-size-lt2.false) in
    let more : size_of old ≤ size_of new = omega (arith, c.size-2.ensures, c.size-3.ensures, c.if-size.false) in
    let same = same_signs c.is_signed.result c.is_signed-2.result yes in
    wider_serves old new big more (sym c.is_signed.ensures ∙ (same ∙ c.is_signed-2.ensures))

-- Each turn compares one part, and the parts after it decide the others.
use Rattle.std.proofs.Common.{◌≤◌, length, arith}
use Rattle.postcard_compat.specs.Parts.{parts_of}
use Rattle.postcard_compat.proofs.Fronts.{front_next, front_end}
use Rattle.postcard_compat.proofs.front.parts_begin.Goals as goal

pub loop-index-preserved : goal.loop-index-preserved
loop-index-preserved c =
    front_next (parts_of c.args.new) (parts_of c.args.old) c.loop-index.index c.in-Some.other.now c.in-Some-get.part.now c.in-Some.ensures.part.0 c.in-Some.ensures.part.1
    c.in-Some-get.ensures.part.0 c.in-Some-get.ensures.part.1 (c.serves.ensures c.if-not-serves.false) c.loop-index.invariant

pub returns : goal.returns
returns c = λ yes.
    let high : length (parts_of c.args.new) ≤ c.loop-index.index = omega arith in
    front_end (parts_of c.args.new) (parts_of c.args.old) c.loop-index.index high c.loop-index.invariant

-- `fmt` prints a path step by step: one more step extends what is printed.
use Rattle.std.proofs.Common.{◌<◌, length, refl, sym, arith}
use Rattle.std.proofs.Output.{has_written_append, has_written_of_eq}
use Rattle.postcard_schema.proofs.Steps.{steps_more}
use Rattle.postcard_schema.proofs.path.PathDisplay.fmt.Goals as goal

pub loop-i-preserved : goal.loop-i-preserved
loop-i-preserved g c = λ plain ok.
    let ss = c.deref-step-items.result.now in
    let i = c.loop-i.i in
    let low : i < length ss = omega arith in
    let so = c.loop-i.invariant plain ok in
    has_written_of_eq _ _ _ _ _ (sym (steps_more _ ss i low))
    (has_written_append _ _ _ _ _ _ so (c.in_ok-write_step.ensures so.plain refl))

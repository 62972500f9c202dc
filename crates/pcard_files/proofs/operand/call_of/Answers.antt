use Rattle.std.proofs.Common.{string_bytes, arith, Global}
use Rattle.std.proofs.lemmas.List.{length-map}
use Rattle.pcard_files.proofs.CallLemmas.{operands_within}
use Rattle.pcard_files.proofs.operand.call_of.Goals as goal

pub returns-in-Ok-clause-one : goal.returns-in-Ok-clause-one
returns-in-Ok-clause-one c = λ other more others is. c.one_call.ensures _ _ _ _ _ _ _ c.in-Ok.ensures.call is

pub returns-in-Ok-clause-inside : goal.returns-in-Ok-clause-inside
returns-in-Ok-clause-inside c =
    let n = operands_within _ _ _ _ c.in-Ok.ensures.call in
    omega (arith, n, length-map c.args.words.now (string_bytes {Z = Global}), length-map c.in-Ok.call.operands.now (string_bytes {Z = Global}))

pub returns-in-Err-clause-none : goal.returns-in-Err-clause-none
returns-in-Err-clause-none c = λ verb given operands is. c.call_or_misuse.ensures _ _ _ _ _ is c.in-Err.ensures.misuse

use Rattle.std.proofs.Common.{string_bytes, sym, ◌∙◌, arith, Global}
use Rattle.std.proofs.lemmas.List.{length-map}
use Rattle.pcard_files.proofs.CallLemmas.{one_type, takes_none, without_operands}
use Rattle.pcard_files.proofs.operand.type_index.Goals as goal
use Rattle.pcard_files.proofs.operand.type_index.Goals.{then-not-takes_type-via-then-not-takes_type, then-not-takes_type-via-else-not-takes_type+then-is_empty}

pub returns-in_default-clause-none : goal.returns-in_default-clause-none
returns-in_default-clause-none c = λ i found. c.in_default.ensures.none _ _ _ found.call

pub returns-then-not-takes_type-clause-none : goal.returns-then-not-takes_type-clause-none
returns-then-not-takes_type-clause-none c =
    let only = c.in-Some.ensures.one in
    elim c.then-not-takes_type.branch [
      | then-not-takes_type-via-then-not-takes_type w ↦ takes_none _ _ _ _ only (sym c.takes_type.ensures ∙ w.if-not-takes_type.true)
      | then-not-takes_type-via-else-not-takes_type+then-is_empty w ↦
          without_operands (string_bytes {Z = Global}) c.in-Some.call.operands.now _ _ _ only (sym w.is_empty.ensures ∙ w.if-is_empty.true)
    ]

pub returns-clause-one : goal.returns-clause-one
returns-clause-one c = λ j found.
    let all = length-map c.args.words.now (string_bytes {Z = Global}) in
    let count = length-map c.in-Some.call.operands.now (string_bytes {Z = Global}) in
    let inside = c.in-Some.ensures.inside in
    one_type _ _ _ _ _ j c.in-Some.ensures.one (omega (arith, all, count, inside)) found

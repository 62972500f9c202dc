-- Each turn prints the line of one value and leaves fewer bytes. `Refused` comes at the first message that has no value.
use Rattle.std.proofs.Common.{sym, ◌∙◌, eqb-true}
use Rattle.std.proofs.lemmas.List.{nil_from_length}
use Rattle.std.proofs.lemmas.Result.{err_from_is_err_and}
use Rattle.pcard_message.proofs.DecodeLemmas.{later_fails, next_shorter, none_printed, one_printed}
use Rattle.pcard_message.proofs.decoding.decode_all.Goals as goal

pub values-init : goal.values-init
values-init g c = none_printed _ _ _

pub values-smaller : goal.values-smaller
values-smaller g c = let p = c.in_ok-rest.ensures.printed in next_shorter _ _ _ p.found.value_of p.found.rest (c.lacks_bytes.ensures.has c.if-lacks_bytes.false) p.is

pub values-preserved : goal.values-preserved
values-preserved g c = one_printed _ _ _ _ _ _ _ c.values.invariant c.in_ok-rest.ensures.printed

pub returns-clause-printed : goal.returns-clause-printed
returns-clause-printed g c =
    let all = c.values.invariant in
    let none = nil_from_length _ (eqb-true _ 0 (sym c.is_empty.ensures ∙ c.values-test.false)) in
    (all.found, rw none at all.values)

pub returns-in_err-rest-clause-refused : goal.returns-in_err-rest-clause-refused
returns-in_err-rest-clause-refused g c =
    let p = err_from_is_err_and c.from_residual.result c.from_residual.ensures.1 in
    rw (p.1, p.2) (later_fails _ _ _ _ _ _ c.in_err-rest.field-0.0 c.values.invariant c.in_err-rest.ensures.refused)

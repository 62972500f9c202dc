use Rattle.std.proofs.Common.{inl, rules, sym, ◌∙◌}
use Rattle.std.proofs.lemmas.Result.{err_from_is_err_and}
use Rattle.pcard_calls.proofs.Parts.{cut-first, cut-last, says-number, says-none, read-start, read-step, read-end, read-refused}
use Rattle.pcard_calls.proofs.value.list.Goals as goal

pub parts-init : goal.parts-init
parts-init g c = (rw c.new-numbers.ensures.items (read-start _ c.args.word.now), c.utf8.word)

pub returns-in_err-scalar-clause-refused : goal.returns-in_err-scalar-clause-refused
returns-in_err-scalar-clause-refused g c =
    let p = err_from_is_err_and c.from_residual.result c.from_residual.ensures.1 in
    let filled = sym c.is_empty.ensures ∙ c.if-is_empty.false in
    let first = cut-first _ _ (c.in-Some.part, c.in-Some.after) c.split_once.ensures.cases c.in-Some.is in
    let none = says-none g.T.FromStr.from_str_gives c.in-Some.part.now _ _ c.scalar.ensures c.in_err-scalar.was in
    rw (p.1, p.2, filled) (inl (none.0, read-refused _ _ _ _ _ _ none.1.0 c.parts.invariant.0 first none.1.1))

pub parts-preserved : goal.parts-preserved
parts-preserved g c =
    let first = cut-first _ _ (c.in-Some.part, c.in-Some.after) c.split_once.ensures.cases c.in-Some.is in
    let says = says-number g.T.FromStr.from_str_gives c.in-Some.part.now _ _ c.scalar.ensures c.in_ok-scalar.was in
    (rw c.in_ok-push.ensures.items (read-step _ _ _ _ _ _ _ c.parts.invariant.0 first says), search rules)

pub returns-in_err-scalar-2-clause-refused : goal.returns-in_err-scalar-2-clause-refused
returns-in_err-scalar-2-clause-refused g c =
    let p = err_from_is_err_and c.from_residual-in_err-scalar-2.result c.from_residual-in_err-scalar-2.ensures.1 in
    let filled = sym c.is_empty.ensures ∙ c.if-is_empty.false in
    let last = cut-last _ _ c.split_once.ensures.cases c.in_default.is in
    let none = says-none g.T.FromStr.from_str_gives c.parts.rest.now _ _ c.scalar-2.ensures c.in_err-scalar-2.was in
    rw (p.1, p.2, filled) (inl (none.0, read-refused _ _ _ _ _ _ none.1.0 c.parts.invariant.0 last none.1.1))

pub returns-clause-value : goal.returns-clause-value
returns-clause-value g c =
    let filled = sym c.is_empty.ensures ∙ c.if-is_empty.false in
    let last = cut-last _ _ c.split_once.ensures.cases c.in_default.is in
    let says = says-number g.T.FromStr.from_str_gives c.parts.rest.now _ _ c.scalar-2.ensures c.in_ok-scalar-2.was in
    rw (c.in_ok-push-2.ensures.items, filled) (read-end _ _ _ _ _ c.parts.invariant.0 last says)

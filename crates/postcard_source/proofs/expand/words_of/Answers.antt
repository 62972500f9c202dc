use Rattle.std.proofs.Common.{◌≡◌, [], ◌∷◌, ◌++◌, length, ap, ◌∙◌, rules}
use Rattle.std.proofs.lemmas.Result.{err_from_is_err_and}
use Rattle.postcard_source.specs.Tokens.{spelling}
use Rattle.postcard_source.proofs.Openings.{opened_by}
use Rattle.postcard_source.proofs.Spelled.{problem_of_declaration, spelled_by}
use Rattle.postcard_source.proofs.expand.words_of.Goals as goal

pub returns-in_err-write_declaration-clause-problem : goal.returns-in_err-write_declaration-clause-problem
returns-in_err-write_declaration-clause-problem c =
    let p = err_from_is_err_and c.from_residual.result c.from_residual.ensures.1 in
    let pushed : c.push.new.self.items ≡ c.new-within.result.items ++ c.in-Some.declaration ∷ [] = search rules in
    let first = pushed ∙ ap (λ ds. ds ++ c.in-Some.declaration ∷ []) c.new-within.ensures.items in
    rw (p.1, p.2) (λ is. problem_of_declaration c.args.tokens.now c.args.known.now _ c.args.name.now c.in-Some.declaration _ _ c.in-Some.ensures.found.0 c.in-Some.ensures.found.1
    first (ap length c.new-out.ensures.items) (c.in_err-write_declaration.ensures.problem is))

pub returns-clause-spelled : goal.returns-clause-spelled
returns-clause-spelled c =
    spelled_by c.args.tokens.now c.args.known.now c.args.name.now _ _ c.in-Some.declaration c.requires.differ c.in-Some.ensures.found.0 c.in-Some.ensures.found.1
    (ap spelling c.new-out.ensures.items) c.in_ok-write_declaration.ensures.written

pub returns-clause-opens : goal.returns-clause-opens
returns-clause-opens c =
    opened_by c.args.tokens.now c.args.known.now _ _ c.in-Some.declaration c.in-Some.ensures.found.0 c.in_ok-write_declaration.ensures.begins (ap spelling c.new-out.ensures.items)
    c.in_ok-write_declaration.ensures.written

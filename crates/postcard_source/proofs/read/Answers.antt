use Rattle.std.proofs.Common.{sym, subst, ◌∙◌, ap}
use Rattle.std.proofs.lemmas.Result.{err_from_is_err_and}
use Rattle.postcard_source.specs.Tokens.{spelling}
use Rattle.postcard_source.specs.Expands.{AreInOrder}
use Rattle.postcard_source.proofs.Spelled.{in_order}
use Rattle.postcard_source.specs.Items.{AreDeclarations}
use Rattle.postcard_source.proofs.Openings.{text_opens}
use Rattle.postcard_source.proofs.Files.{file_of, expression_of, problem_of, problem_of_text}
use Rattle.postcard_source.proofs.read.Goals as goal

pub words_of-requires-clause-order : goal.words_of-requires-clause-order
words_of-requires-clause-order c =
    let ordered = subst (AreInOrder c.as_slice-2.result.now) (sym c.as_slice-4.ensures.value) (in_order _ _ c.in_ok-known.ensures.declared) in
    subst (λ ts. AreInOrder ts c.as_slice-4.result.now) (c.as_slice-2.ensures.value ∙ sym c.as_slice-3.ensures.value) ordered

pub returns-in_err-words-clause-problem : goal.returns-in_err-words-clause-problem
returns-in_err-words-clause-problem c =
    let p = err_from_is_err_and c.from_residual-in_err-words.result c.from_residual-in_err-words.ensures.1 in
    rw (p.1, p.2) (problem_of c.args.file.now c.args.name.now _ _ _ _ _
    (file_of c.args.file.now _ _ _ _ _ c.in_ok-all.ensures.read c.as_slice.ensures.value c.in_ok-kept.ensures.kept c.as_slice-2.ensures.value c.in_ok-known.ensures.declared)
    c.as_slice-3.ensures.value c.as_slice-4.ensures.value c.in_err-words.ensures.problem)

pub returns-in-Ok-clause-spelled : goal.returns-in-Ok-clause-spelled
returns-in-Ok-clause-spelled c =
    expression_of c.args.file.now c.args.name.now _ _ _ _ _ _
    (file_of c.args.file.now _ _ _ _ _ c.in_ok-all.ensures.read c.as_slice.ensures.value c.in_ok-kept.ensures.kept c.as_slice-2.ensures.value c.in_ok-known.ensures.declared)
    c.as_slice-3.ensures.value c.as_slice-4.ensures.value c.in_ok-words.ensures.spelled (c.in_ok-text.ensures.spelled ∙ ap spelling c.as_slice-5.ensures.value)

pub returns-clause-problem : goal.returns-clause-problem
returns-clause-problem c =
    problem_of_text c.args.file.now c.args.name.now _ _ c.in-Err.e.problem c.problem_of.result _ _ _ _
    (file_of c.args.file.now _ _ _ _ _ c.in_ok-all.ensures.read c.as_slice.ensures.value c.in_ok-kept.ensures.kept c.as_slice-2.ensures.value c.in_ok-known.ensures.declared)
    c.as_slice-3.ensures.value c.as_slice-4.ensures.value c.in_ok-words.ensures.spelled
    (c.as_str.ensures.value ∙ c.in_ok-text.ensures.spelled ∙ ap spelling c.as_slice-5.ensures.value) c.in-Err.ensures.refused c.problem_of.ensures

pub returns-in-Ok-clause-opens : goal.returns-in-Ok-clause-opens
returns-in-Ok-clause-opens c =
    text_opens _ _ _ _ _ _ (subst (λ ts. AreDeclarations ts c.in_ok-known.known.items) c.as_slice-2.ensures.value c.in_ok-known.ensures.declared) c.as_slice-3.ensures.value c.as_slice-4.ensures.value
    c.in_ok-words.ensures.opens (c.in_ok-text.ensures.spelled ∙ ap spelling c.as_slice-5.ensures.value)

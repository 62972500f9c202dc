-- Closing the parts that are no longer around, and adding the line's step, gives the path of the line.
use Rattle.std.proofs.Common.{List, ℕ, ◌++◌, take, sym, ap, ◌∙◌}
use Rattle.std.specs.Prelude.{map}
use Rattle.std.proofs.lemmas.List.{take-map}
use Rattle.postcard_schema.specs.Paths.{PlainStep, plain_step}
use Rattle.postcard_schema.specs.declared.path.Step.{Step}
use Rattle.pcard_explain.specs.Places.{label_steps}
use Rattle.pcard_explain.proofs.PlaceLemmas.{reached}
use Rattle.pcard_explain.proofs.place.Place.reach.Goals as goal

pub returns : goal.returns
returns c = λ seen before.
    let old = c.args.self.now in
    let steps = old.path.steps.items in
    let label = label_steps c.args.line.now.label in
    reached old _ seen c.args.line.now before c.leave-around.ensures.same
    (c.in_ok-add.ensures ∙ ap (λ (s : List PlainStep). map plain_step c.truncate.new.self.items ++ s) c.step_of.ensures
    ∙ ap (λ (t : List Step). map plain_step t ++ label) (c.truncate.ensures.items ∙ ap (λ (n : ℕ). take n steps) c.leave-around.ensures.around)
    ∙ ap (λ (q : List PlainStep). q ++ label) (sym (take-map plain_step _ steps)))

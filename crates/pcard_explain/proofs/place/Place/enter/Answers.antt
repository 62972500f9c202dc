-- With the part of the line opened, the place follows the lines up to this one.
use Rattle.std.proofs.Common.{◌++◌, refl, sym, ap, ◌∙◌}
use Rattle.std.proofs.lemmas.List.{length-map}
use Rattle.postcard_schema.specs.Paths.{plain_path, plain_step}
use Rattle.pcard_explain.proofs.PlaceLemmas.{entered}
use Rattle.pcard_explain.proofs.place.Place.enter.Goals as goal

pub returns : goal.returns
returns c = λ seen on.
    let steps = c.add.new.path.steps.items in
    entered c.args.self.now (record { path = record { steps = c.add.new.path.steps }; parts = c.push.new.self }) seen c.args.line.now _ on c.in_ok-push.ensures.items refl
    (c.in_ok-add.ensures ∙ ap (λ s. plain_path c.args.self.now.path ++ s) c.step_into.ensures)
    (c.len.ensures ∙ c.add.new.path.steps.ok.0 ∙ sym (length-map steps plain_step))

-- A text of a value is the value and then blanks, so what follows the value must be blanks.
use Rattle.std.proofs.Common.{◌≡◌, [], ◌++◌, length, sym, ap, ◌∙◌, arith, inl}
use Rattle.std.proofs.lemmas.Grind.{common_steps}
use Rattle.std.proofs.lemmas.List.{append-nil}
use Rattle.postcard_schema_text.specs.Text.{unblank, AreBlank}
use Rattle.postcard_schema_text.specs.FrontLemmas.{trim_is, takes_split, unblank_all}
use Rattle.postcard_schema_text.specs.Phrases.{takes_two, trim_takes}
use Rattle.postcard_value_text.specs.{SpellsTree, layout_of, tree}
use Rattle.postcard_value_text.proofs.Readers.{blank_rest, memory_passed}
use Rattle.postcard_value_text.proofs.read.read_whole.Goals as goal

pub returns-clause-spelled : goal.returns-clause-spelled
returns-clause-spelled c =
    let after = c.skip_blanks.new.rest.now in
    let none : after ≡ [] = grind (arith, common_steps) in
    let all = takes_two (SpellsTree (layout_of c.args.schema.now) (tree c.in_ok-value.value)) AreBlank c.args.rest.now.now c.read.new.rest.now after
    c.in_ok-value.ensures.spelled (trim_takes c.read.new.rest.now after c.skip_blanks.ensures) in
    (all.1.0, all.1.1, all.1.2, all.1.3, all.2 ∙ ap (λ t. all.0 ++ t) none ∙ append-nil all.0 ∙ all.1.4)

pub returns-in_err-value-clause-accepted : goal.returns-in_err-value-clause-accepted
returns-in_err-value-clause-accepted c = λ names v r h.
    let k = takes_split (SpellsTree (layout_of c.args.schema.now) (tree v)) AreBlank c.args.rest.now.now [] (c.args.rest.now.now, h, sym (append-nil c.args.rest.now.now)) in
    memory_passed _ c.from_residual.result _ c.from_residual.ensures.1 (c.in_err-value.ensures.accepted names (tree v) k.0 r k.1 (inl (blank_rest k.0 k.2)))

pub returns-then-not-is_empty-clause-accepted : goal.returns-then-not-is_empty-clause-accepted
returns-then-not-is_empty-clause-accepted c = λ names v r h.
    let k = takes_split (SpellsTree (layout_of c.args.schema.now) (tree v)) AreBlank c.args.rest.now.now [] (c.args.rest.now.now, h, sym (append-nil c.args.rest.now.now)) in
    let got = c.in_ok-value.ensures.accepted names (tree v) k.0 r k.1 (inl (blank_rest k.0 k.2)) in
    let none : c.skip_blanks.new.rest.now ≡ [] = trim_is c.read.new.rest.now c.skip_blanks.new.rest.now c.skip_blanks.ensures ∙ ap unblank got.1 ∙ unblank_all k.0 (blank_rest k.0 k.2) in
    let few = ap length none in
    absurd (grind (arith, common_steps, few))

pub returns-clause-accepted : goal.returns-clause-accepted
returns-clause-accepted c = λ names v r h.
    let k = takes_split (SpellsTree (layout_of c.args.schema.now) (tree v)) AreBlank c.args.rest.now.now [] (c.args.rest.now.now, h, sym (append-nil c.args.rest.now.now)) in
    (c.in_ok-value.ensures.accepted names (tree v) k.0 r k.1 (inl (blank_rest k.0 k.2))).0

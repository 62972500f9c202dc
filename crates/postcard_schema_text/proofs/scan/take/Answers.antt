-- `take` compares the first byte after the blanks. If it is another, no phrase of the sign begins the text.
use Rattle.std.proofs.Common.{◌≡◌, ◌∷◌, ◌∙◌, sym, arith}
use Rattle.std.proofs.lemmas.Grind.{common_steps}
use Rattle.postcard_schema_text.specs.Phrases.{sign_takes}
use Rattle.postcard_schema_text.specs.FrontLemmas.{next_sign, same_first}
use Rattle.postcard_schema_text.proofs.scan.take.Goals as goal

pub returns-in-Some-clause-taken : goal.returns-in-Some-clause-taken
returns-in-Some-clause-taken c _ =
    let s = c.trim_ascii_start.result.now in
    let whole : s ≡ c.in-Some.first.now ∷ c.in-Some.after.now = c.in-Some.ensures.cases.0 in
    let same : c.in-Some.first.now ≡ c.args.byte = grind (arith, common_steps) in
    sign_takes c.args.byte c.args.rest.now.now s c.in-Some.after.now c.trim_ascii_start.ensures.value (rw same at whole)

pub returns-in_default-clause-none : goal.returns-in_default-clause-none
returns-in_default-clause-none c _ black after h =
    let s = c.trim_ascii_start.result.now in
    let whole : s ≡ c.in-Some.first.now ∷ c.in-Some.after.now = c.in-Some.ensures.cases.0 in
    let first : c.in-Some.first.now ≡ c.args.byte = same_first (sym whole ∙ next_sign c.args.byte c.args.rest.now.now s after c.trim_ascii_start.ensures.value black h) in
    grind (arith, common_steps)

pub returns-in_default-2-clause-none : goal.returns-in_default-2-clause-none
returns-in_default-2-clause-none c _ black after h =
    let s = c.trim_ascii_start.result.now in
    let whole : s ≡ c.args.byte ∷ after = next_sign c.args.byte c.args.rest.now.now s after c.trim_ascii_start.ensures.value black h in
    grind (arith, common_steps)

-- The first byte is 1, and reading stops in the content. Or the first byte itself can't be read.
use Rattle.std.proofs.Common.{◌≡◌, [], ◌∷◌, length, refl, sym, ap, ◌∙◌, arith, append-nil}
use Rattle.std.proofs.lemmas.Grind.{common_steps}
use Rattle.postcard_schema.specs.Lemmas.{type_of_option}
use Rattle.postcard_value.specs.Refused.{at_flag, in_option}
use Rattle.postcard_value.proofs.FrontLemmas.{option_none}
use Rattle.postcard_value.proofs.place.enter_option.Goals as goal

pub returns-in_default : goal.returns-in_default
returns-in_default c = λ s held steps is inner. (
  λ none. at_flag s _ held is none (λ rest cut. let more : length (1 ∷ rest) ≡ 0 = sym (ap length cut) ∙ c.in_default.ensures.cases in grind
      (arith, common_steps, more)),
  refl,
)

pub returns-then-first-ne1 : goal.returns-then-first-ne1
returns-then-first-ne1 c = λ s held steps is inner.
    (λ none. at_flag s _ held is none (λ rest cut. grind (arith, common_steps, c.if-first-ne1.true, c.in-Some.ensures.cases.0, cut)), refl)

pub returns : goal.returns
returns c = λ s held steps is inner.
    let cut : c.args.bytes.now ≡ 1 ∷ c.in-Some.rest.now = c.in-Some.ensures.cases.0 ∙ ap (λ b. b ∷ c.in-Some.rest.now) (omega arith) in
    rw (← inner) (
      (1 ∷ [], [], in_option s held is, sym (append-nil steps), cut, option_none s held c.args.bytes.now c.in-Some.rest.now is cut),
      rw (is, type_of_option held) (omega arith),
    )

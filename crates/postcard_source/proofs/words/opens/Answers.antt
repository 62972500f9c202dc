use Rattle.std.proofs.Common.{◌∷◌, ap, ◌∙◌, eqb-true, inl, inr}
use Rattle.postcard_source.proofs.words.opens.Goals as goal

pub returns-then-first-eq40 : goal.returns-then-first-eq40
returns-then-first-eq40 c _ = (c.in-Some.field-0-1.now, inl (c.in-Some.ensures.cases.0 ∙ ap (λ b. b ∷ c.in-Some.field-0-1.now) c.if-first-eq40.true))

pub returns-else-first-eq40 : goal.returns-else-first-eq40
returns-else-first-eq40 c e = (c.in-Some.field-0-1.now, inr (c.in-Some.ensures.cases.0 ∙ ap (λ b. b ∷ c.in-Some.field-0-1.now) (eqb-true c.in-Some.first.now 123 e)))

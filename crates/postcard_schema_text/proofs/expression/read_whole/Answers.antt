-- `read_whole` reads the one type of an expression. An expression is a type and then blanks, so what follows a type must be blanks.
use Rattle.std.proofs.Common.{◌≡◌, ℕ, [], ◌++◌, List, ap, sym, ◌∙◌, arith, inl, inr}
use Rattle.std.proofs.lemmas.Grind.{common_steps}
use Rattle.std.proofs.lemmas.List.{append-nil}
use Rattle.postcard_schema.specs.declared.schema.Schema.{Schema}
use Rattle.postcard_schema_text.specs.Text.{unblank, AreBlank, TakesPhrase}
use Rattle.postcard_schema_text.specs.Grammar.{IsType, IsExpression}
use Rattle.postcard_schema_text.specs.Phrases.{takes_two, trim_takes}
use Rattle.postcard_schema_text.specs.FrontLemmas.{trim_is, unblank_all}
use Rattle.postcard_schema_text.proofs.Refusals.{refusal, refused_err}
use Rattle.postcard_schema_text.proofs.expression.read_whole.Goals as goal

-- An expression is a type, and then blanks.
of_expression : (s : Schema) (text : List ℕ) → IsExpression s text → (rest : List ℕ) × TakesPhrase (IsType 64 s) text rest × AreBlank rest
of_expression s text (front, back, h, blank, e) = (back, (front, h, e), blank)

pub returns-in_err-schema-clause-refused : goal.returns-in_err-schema-clause-refused
returns-in_err-schema-clause-refused c =
    refused_err _ _ c.from_residual.ensures.1 (refusal (λ (s, h). let k = of_expression s c.args.rest.now.now h in (s, k.0, k.1, inl k.2)) c.in_err-schema.ensures.refused)

pub returns-then-not-is_empty-clause-refused : goal.returns-then-not-is_empty-clause-refused
returns-then-not-is_empty-clause-refused c =
    inr (λ (s, h).
    let k = of_expression s c.args.rest.now.now h in
    let only = c.in_ok-schema.ensures.one s k.0 k.1 (inl k.2) in
    let none : c.skip_blanks.new.rest.now ≡ [] = trim_is _ _ c.skip_blanks.ensures ∙ ap unblank (sym only.1) ∙ unblank_all k.0 k.2 in
    grind (arith, common_steps, none))

pub returns-clause-spelled : goal.returns-clause-spelled
returns-clause-spelled c =
    let after = c.skip_blanks.new.rest.now in
    let none : after ≡ [] = grind (arith, common_steps) in
    let all = takes_two (IsType 64 c.in_ok-schema.schema) AreBlank c.args.rest.now.now c.read_type.new.rest.now after
    c.in_ok-schema.ensures.spelled (trim_takes c.read_type.new.rest.now after c.skip_blanks.ensures) in
    (all.1.0, all.1.1, all.1.2, all.1.3, all.2 ∙ ap (λ t. all.0 ++ t) none ∙ append-nil all.0 ∙ all.1.4)

pub returns-clause-one : goal.returns-clause-one
returns-clause-one c s h = let k = of_expression s c.args.rest.now.now h in (c.in_ok-schema.ensures.one s k.0 k.1 (inl k.2)).0

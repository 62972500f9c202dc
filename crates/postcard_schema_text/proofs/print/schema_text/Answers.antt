-- The text of a type that has an expression is one. A type with a flaw other than its depth has none.
use Rattle.std.proofs.Common.{◌≡◌, ◌⊎◌, ◌++◌, refl, sym, ap, subst, ◌∙◌, inl, inr}
use Rattle.std.specs.Prelude.{Result, Ok, Err, IfErr, IsErrAnd}
use Rattle.postcard_schema.specs.declared.schema.Schema.{Schema}
use Rattle.postcard_schema.specs.Named.{named_text}
use Rattle.postcard_schema.specs.Views.{view}
use Rattle.postcard_schema_text.specs.declared.error.TextError.{TextError}
use Rattle.postcard_schema_text.specs.declared.error.TextError.TheVariants.{Name, NameTwice, Empty, NoBytes, NarrowNumber, TooDeep, OutOfMemory}
use Rattle.postcard_schema_text.specs.Expressible.{HasFlaw, HasNoExpression, IsExpressible}
use Rattle.postcard_schema_text.proofs.Excluded.{excluded}
use Rattle.postcard_schema_text.proofs.NoText.{no_text}
use Rattle.postcard_schema_text.proofs.PrintedTypes.{printed_expression}
use Rattle.postcard_schema_text.proofs.print.schema_text.Goals as goal

pub returns-in-Ok-clause-expression : goal.returns-in-Ok-clause-expression
returns-in-Ok-clause-expression c = printed_expression c.args.schema.now _ c.in_ok-check.ensures
    (c.in-Ok.ensures ∙ ap (λ z. z ++ named_text (view c.args.schema.now)) c.new-text.ensures.bytes)

-- The error that a `?` passes on.
passed : {R : Type 0} (P : TextError → Type 0) (r : Result R TextError) (e : TextError) → IsErrAnd r (λ y. y ≡ e) → P e → IfErr r P
passed P (Ok x) e h k = absurd h
passed P (Err y) e h k = subst P (sym h) k

-- Either an error is the depth, or the schema has no expression.
too_deep_or : (e : TextError) (s : Schema) → HasFlaw e 64 (view s) → (e ≡ TooDeep) ⊎ HasNoExpression s
too_deep_or TooDeep s h = inl refl
too_deep_or Name s h = inr (λ text k. no_text Name 64 s text h (λ same. cc same) k)
too_deep_or NameTwice s h = inr (λ text k. no_text NameTwice 64 s text h (λ same. cc same) k)
too_deep_or Empty s h = inr (λ text k. no_text Empty 64 s text h (λ same. cc same) k)
too_deep_or NoBytes s h = inr (λ text k. no_text NoBytes 64 s text h (λ same. cc same) k)
too_deep_or NarrowNumber s h = inr (λ text k. no_text NarrowNumber 64 s text h (λ same. cc same) k)
too_deep_or OutOfMemory s h = inr (λ text k. no_text OutOfMemory 64 s text h (λ same. cc same) k)

pub returns-in_err-check-clause-inexpressible : goal.returns-in_err-check-clause-inexpressible
returns-in_err-check-clause-inexpressible c =
    let e = c.in_err-check.field-0.0 in
    let s = c.args.schema.now in
    passed (λ y. (y ≡ OutOfMemory) ⊎ (IsExpressible (view s) → ⊥)) c.from_residual.result e c.from_residual.ensures.1
    (inr (λ h. excluded e 64 (view s) h c.in_err-check.ensures))

pub returns-in_err-check-clause-no_expression : goal.returns-in_err-check-clause-no_expression
returns-in_err-check-clause-no_expression c =
    let e = c.in_err-check.field-0.0 in
    let s = c.args.schema.now in
    passed (λ y. (y ≡ OutOfMemory) ⊎ ((y ≡ TooDeep) ⊎ HasNoExpression s)) c.from_residual.result e c.from_residual.ensures.1
    (inr (too_deep_or e s c.in_err-check.ensures))

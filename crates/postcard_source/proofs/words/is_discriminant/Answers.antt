use Rattle.std.proofs.Common.{◌-◌, refl, arith}
use Rattle.std.specs.Prelude.{codes}
use Rattle.postcard_source.specs.Words.{EndsDiscriminant, IsSign}
use Rattle.postcard_source.proofs.Decided.{unless}
use Rattle.postcard_source.proofs.Discriminants.{from_more, none_goes_on, none_begins}
use Rattle.postcard_source.proofs.words.is_discriminant.Goals as goal

pub returns-then-ends_discriminant : goal.returns-then-ends_discriminant
returns-then-ends_discriminant c =
    none_goes_on c.args.tokens.now (c.back.index - 1) c.back.index c.args.at (omega arith) (omega arith) (c.ends_discriminant.ensures.0 c.if-ends_discriminant.true) c.back.invariant.2

pub returns-then-is_sign : goal.returns-then-is_sign
returns-then-is_sign c = (
  λ _. (
    c.back.index - 1,
    omega arith,
    c.is_sign.ensures.0 c.if-is_sign.true,
    from_more (λ k. EndsDiscriminant c.args.tokens.now k → ⊥) (c.back.index - 1) c.back.index c.args.at (omega arith) (unless c.ends_discriminant.ensures c.if-ends_discriminant.false) c.back.invariant.1,
  ),
  λ _. refl,
)

pub back-preserved : goal.back-preserved
back-preserved c = (
  omega arith,
  from_more (λ k. EndsDiscriminant c.args.tokens.now k → ⊥) (c.back.index - 1) c.back.index c.args.at (omega arith) (unless c.ends_discriminant.ensures c.if-ends_discriminant.false) c.back.invariant.1,
  from_more (λ k. IsSign 1 (codes "=") c.args.tokens.now k → ⊥) (c.back.index - 1) c.back.index c.args.at (omega arith) (unless c.is_sign.ensures c.if-is_sign.false) c.back.invariant.2,
)

pub returns : goal.returns
returns c = none_begins c.args.tokens.now c.back.index c.args.at (omega arith) c.back.invariant.2

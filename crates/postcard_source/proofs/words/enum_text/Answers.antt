use Rattle.std.proofs.Common.{refl, inl, inr}
use Rattle.postcard_source.proofs.Decided.{unless}
use Rattle.postcard_source.proofs.words.enum_text.Goals as goal

pub returns : goal.returns
returns c = inr (
  unless c.is_sign.ensures c.if-is_sign.false,
  inr (
    unless c.is_sign-2.ensures c.if-is_sign-2.false,
    inr (
      unless c.is_sign-3.ensures c.if-is_sign-3.false,
      inr (
        unless c.is_last_comma.ensures c.if-is_last_comma.false,
        inr (unless c.is_discriminant.ensures c.if-is_discriminant.false, c.plain_text.ensures),
      ),
    ),
  ),
)

pub returns-then-is_discriminant : goal.returns-then-is_discriminant
returns-then-is_discriminant c = inr (
  unless c.is_sign.ensures c.if-is_sign.false,
  inr (
    unless c.is_sign-2.ensures c.if-is_sign-2.false,
    inr (
      unless c.is_sign-3.ensures c.if-is_sign-3.false,
      inr (unless c.is_last_comma.ensures c.if-is_last_comma.false, inl (c.is_discriminant.ensures.0 c.if-is_discriminant.true, refl)),
    ),
  ),
)

use Rattle.pcard_impl.proofs.Same.{same_file}
use Rattle.pcard_impl.proofs.written.Goals as goal

pub returns-then-is_of : goal.returns-then-is_of
returns-then-is_of c = (
  _,
  c.as_str.result.now,
  _,
  c.in_ok-outside.ensures.outside,
  c.in_ok-written.ensures,
  same_file _ _ _ _ _ _ (c.is_of.ensures c.if-is_of.true) c.as_str-2.ensures.value,
)

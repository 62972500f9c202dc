-- The property `lasts` still holds, since a push leads to a state that pushes reach.
use Rattle.std.proofs.Math.Logic.{∥∥₁_map₂}
use Rattle.postcard_ser.proofs.collect_str.FmtWriterWrite.write_str.Goals as goal

pub invariant_of-self : goal.invariant_of-self
invariant_of-self g c = record {
  lasts = ∥∥₁_map₂ c.args.self.now.lasts c.args.self.now.kept (λ p q. q _ _ p c.try_extend.ensures.leaves);
  kept = c.args.self.now.kept;
}

-- Pushes reach the flavor itself, and whatever they reach from there.
use Rattle.std.proofs.Math.Logic.{∥∥₁_elim}
use Rattle.postcard_ser.proofs.collect_str.print.Goals as goal

pub write_text-requires-clause-lasts : goal.write_text-requires-clause-lasts
write_text-requires-clause-lasts g c = g.F.Flavor.lawful.reaches_self _

pub write_text-requires-clause-kept : goal.write_text-requires-clause-kept
write_text-requires-clause-kept g c = λ s t p q. g.F.Flavor.lawful.reaches_join _ _ _ p q

pub returns-clause-leaves : goal.returns-clause-leaves
returns-clause-leaves g c = ∥∥₁_elim c.write_text.ensures.lasts (g.F.Flavor.lawful.reaches_prop _ _) (λ p. p)

use Rattle.std.proofs.Common.{arith, rules}
use Rattle.std.proofs.lemmas.Grind.{common_steps}
use Rattle.postcard_de_flavors.proofs.Cut.{is_end}
use Rattle.postcard_de_flavors.proofs.slice.SliceFlavor.try_take_n.Goals as goal

pub returns-clause-takes : goal.returns-clause-takes
returns-clause-takes c = record {
  gives = grind (arith, common_steps);
  leaves = is_end c.args.self.now c.self.inside.bytes.items c.take.new.self.items c.args.ct c.self.view_is c.take.ensures.left;
  refuses_by_unexpected_end = search rules;
  succeeds_iff_enough = grind (arith, common_steps);
  unchanged = search rules;
}

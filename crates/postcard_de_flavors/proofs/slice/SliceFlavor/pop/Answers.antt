use Rattle.std.proofs.Common.{[], ◌∷◌, sym, ◌∙◌, arith, rules}
use Rattle.std.proofs.lemmas.Grind.{common_steps}
use Rattle.postcard_de_flavors.proofs.slice.SliceFlavor.pop.Goals as goal

pub returns : goal.returns
returns c = record {
  gives = search rules;
  leaves = (c.pop.result ∷ [], sym c.self.view_is ∙ c.pop.ensures);
  refuses_by_unexpected_end = search rules;
  succeeds_iff_enough = grind (arith, common_steps);
  unchanged = search rules;
}

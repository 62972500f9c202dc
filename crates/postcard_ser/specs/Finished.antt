-- The output of a flavor once it has ended.
use Rattle.std.specs.Prelude.{ℕ, List}
use Rattle.postcard_ser_flavors.specs.declared.flavor.Flavor.{Ghosts}

-- The flavor s took the bytes xs, then ended, and returned the output.
pub record Finished {S O : Type 0} (F : Ghosts S O) (s : S) (xs : List ℕ) (output : O) : Type 0 where
  pub last : S
  pub appended : F.appended s xs last
  pub reached : F.reaches s last
  pub ended : F.finishes last output

-- The property `lasts` is here that pushes lead from the flavor passed to the current state.
use Rattle.postcard_ser.proofs.collect_str.print.Given as goal

abbrev pub ghosts-write_text : goal.ghosts-write_text
ghosts-write_text g a = record { lasts = λ s. g.F.Flavor.reaches a.output s }

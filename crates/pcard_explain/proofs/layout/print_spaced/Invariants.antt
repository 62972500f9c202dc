-- The bytes so far are printed.
use Rattle.std.proofs.Common.{take}
use Rattle.std.specs.Io.KnownBytes.{Appends}
use Rattle.pcard_explain.specs.Layouts.{spaced}
use Rattle.pcard_explain.proofs.layout.print_spaced.Given as goal

abbrev pub invariant-loop-byte : goal.invariant-loop-byte
invariant-loop-byte g l = Appends (g.W.Write.contents l.initial.output) (g.W.Write.contents l.output) (spaced (take l.byte-index l.bytes))

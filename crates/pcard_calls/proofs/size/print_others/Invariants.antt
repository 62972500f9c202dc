-- The paths so far are printed.
use Rattle.std.proofs.Common.{map, take}
use Rattle.postcard_schema.specs.Paths.{plain_path}
use Rattle.std.specs.Io.KnownBytes.{Appends}
use Rattle.pcard_calls.specs.Size.{others_text}
use Rattle.pcard_calls.proofs.size.print_others.Given as goal

abbrev pub invariant-loop-part : goal.invariant-loop-part
invariant-loop-part g l = Appends (g.W.Write.contents l.initial.output) (g.W.Write.contents l.output) (others_text (map plain_path (take l.part-index l.parts)))

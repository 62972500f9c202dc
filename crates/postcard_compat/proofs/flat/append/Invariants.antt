-- The parts before the loop's place were appended.
use Rattle.std.proofs.Common.{◌≡◌, ◌++◌, take}
use Rattle.postcard_compat.specs.Parts.{part_types}
use Rattle.postcard_compat.proofs.flat.append.Given as goal

abbrev pub invariant-loop-part : goal.invariant-loop-part
invariant-loop-part l = part_types l.row.items ≡ part_types l.initial.row.items ++ part_types (take l.part-index l.part-items)

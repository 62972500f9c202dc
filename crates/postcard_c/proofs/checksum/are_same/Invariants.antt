-- The bytes before the index are the same.
use Rattle.std.proofs.Common.{◌≡◌, take}
use Rattle.postcard_c.proofs.checksum.are_same.Given as goal

abbrev pub invariant-loop-i : goal.invariant-loop-i
invariant-loop-i l = take l.i l.found ≡ take l.i l.wanted

-- The elements before those that are left are written, and fit. Each block makes the remaining list shorter.
use Rattle.std.proofs.Common.{length}
use Rattle.postcard_ser.proofs.Pieces.{Written}
use Rattle.postcard_ser.proofs.values.lists.serialize_all.Given as goal

abbrev pub invariant-loop-bytes : goal.invariant-loop-bytes
invariant-loop-bytes g l = Written g.F.Flavor g.T.Shaped.shape l.items l.rest l.initial.serializer.output l.serializer.output

abbrev pub decreases-loop-bytes : goal.decreases-loop-bytes
decreases-loop-bytes g l = length l.rest

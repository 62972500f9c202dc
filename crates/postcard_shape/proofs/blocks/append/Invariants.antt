-- So many numbers were read, and there are room and bytes for the others.
use Rattle.std.proofs.Common.{◌+◌, ◌-◌, ◌*◌, ◌<◌, ◌≤◌, length}
use Rattle.std.specs.Vec.{vec_len, vec_capacity}
use Rattle.postcard_shape.proofs.Counted.{SoFar}
use Rattle.postcard_shape.proofs.blocks.append.Given as goal

abbrev pub invariant-loop : goal.invariant-loop
invariant-loop g l = record {
  some : 0 < l.count;
  so : SoFar g.T.OfBytes.form l.fn.items.items l.items.items l.counter l.bytes l.rest;
  room : vec_len l.items + (l.count - l.counter) ≤ vec_capacity l.items;
  left : (l.count - l.counter) * l.size ≤ length l.rest;
}

use Rattle.std.proofs.Common.{◌≡◌, ◌≤◌, ◌*◌, length, take}
use Rattle.postcard_wire.specs.Words.{AreCut}
use Rattle.postcard_wire.proofs.words.cut.Given as goal

abbrev pub invariant-loop-i : goal.invariant-loop-i
invariant-loop-i l = record {
  sized : length l.digits ≡ 12;
  within : l.len ≤ 64;
  some : l.i ≤ 12 * l.len;
  so : l.wrong ≡ 0 → AreCut l.bits (take l.i l.digits) (take l.len l.block);
}

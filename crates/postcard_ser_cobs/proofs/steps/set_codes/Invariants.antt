-- The codes are set of the groups that the bytes before the current place end; the other bytes
-- still follow.
use Rattle.std.proofs.Common.{◌≡◌, ℕ, ◌+◌, ◌-◌, ◌<◌, List, ◌++◌, length, take, drop}
use Rattle.postcard_ser_cobs.specs.Framing.{HoldsThen}
use Rattle.postcard_ser_cobs.proofs.steps.set_codes.Given as goal

abbrev pub invariant-loop-byte : goal.invariant-loop-byte
invariant-loop-byte g l = record {
  counted : l.encoder.code_at + l.encoder.code ≡ l.initial.encoder.code_at + l.initial.encoder.code + l.byte-index;
  short : l.encoder.code + (length l.piece - l.byte-index) < 255;
  same_length : length (g.B.Storage.held l.storage) ≡ length (g.B.Storage.held l.initial.storage);
  left : g.B.Flavor.reaches l.initial.storage l.storage;
  keeps_free : (n : ℕ) → g.B.Storage.free l.initial.storage n → g.B.Storage.free l.storage n;
  opens : (before d : List ℕ) → HoldsThen g.B.Storage.held l.initial.storage l.start l.initial.encoder before d l.piece
      → HoldsThen g.B.Storage.held l.storage l.start l.encoder before (d ++ take l.byte-index l.piece) (drop l.byte-index l.piece);
}

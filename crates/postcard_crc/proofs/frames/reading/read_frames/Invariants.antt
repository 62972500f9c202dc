-- All bytes read were fed.
use Rattle.std.proofs.Common.{length}
use Rattle.postcard_crc.specs.Own.{IsOwn}
use Rattle.postcard_accumulator.proofs.ReadLoop.{ReadSoFar}
use Rattle.postcard_crc.proofs.frames.reading.read_frames.Given as goal

abbrev pub invariant-loop : goal.invariant-loop
invariant-loop g l = record {
  so_far : ReadSoFar g.row.N (IsOwn g.T.Shaped.shape g.W.Width.size l.fn.crc) (g.R.Read.remaining l.fn.reader)
      (g.R.Read.remaining l.reader) l.fn.acc l.acc l.fn.out.items l.out.items l.counter
      (length l.fn.chunk);
  steady : g.R.Reader.steady l.fn.reader → g.R.Reader.steady l.reader;
}

use Rattle.std.proofs.Common.{length}
use Rattle.postcard_accumulator.specs.Values.{IsOwn}
use Rattle.postcard_accumulator.proofs.ReadLoop.{ReadSoFar}
use Rattle.postcard_accumulator.proofs.reading.read_frames.Given as goal

abbrev pub invariant-loop : goal.invariant-loop
invariant-loop g l = record {
  so_far : ReadSoFar g.row.N (IsOwn g.T.Shaped.shape) (g.R.Read.remaining l.fn.reader)
      (g.R.Read.remaining l.reader) l.fn.acc l.acc l.fn.out.items l.out.items l.counter
      (length l.fn.chunk);
  steady : g.R.Reader.steady l.fn.reader → g.R.Reader.steady l.reader;
}

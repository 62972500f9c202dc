-- The bytes held are those read so far, at least one for each read. A steady input is still steady.
use Rattle.std.proofs.Common.{◌≤◌, length}
use Rattle.std.specs.Io.KnownBytes.{Consumes}
use Rattle.pcard_bytes.proofs.input.read_input.Given as goal

abbrev pub invariant-reads : goal.invariant-reads
invariant-reads g l = record {
  reader : Consumes (g.R.Read.remaining l.fn.input) (g.R.Read.remaining l.input) l.held.items;
  steady : g.R.Reader.steady l.fn.input → g.R.Reader.steady l.input;
  count : l.counter ≤ length l.held.items;
}

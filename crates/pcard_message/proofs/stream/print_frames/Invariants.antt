-- The lines of the bytes read so far are printed. They are at least one for each read.
use Rattle.std.proofs.Common.{◌≡◌, ◌≤◌, ℕ, List, length}
use Rattle.std.specs.Io.KnownBytes.{Consumes}
use Rattle.pcard_message.specs.Receiving.{IsAfter}
use Rattle.pcard_message.proofs.stream.print_frames.Given as goal

abbrev pub invariant-reads : goal.invariant-reads
invariant-reads g l = record {
  same : l.format ≡ l.initial.format;
  given : List ℕ;
  count : l.counter ≤ length given;
  reader : Consumes (g.R.Read.remaining l.fn.input) (g.R.Read.remaining l.input) given;
  steady : g.R.Reader.steady l.fn.input → g.R.Reader.steady l.input;
  lines : IsAfter l.format l.fn.longest given l.stream (g.W.Write.contents l.initial.output) (g.W.Write.contents l.output);
}

-- A frame with no data is refused, and of any other the value is read from the data.
use Rattle.std.proofs.Common.{length, sym, arith}
use Rattle.std.proofs.lemmas.Bool.{eqb-true, eqb-false}
use Rattle.postcard_crc.proofs.InFrame.{of_no_data, of_data}
use Rattle.postcard_crc.proofs.de.cobs.read_checked.Goals as goal

pub returns-then-is_empty : goal.returns-then-is_empty
returns-then-is_empty g c = record {
  reads = λ frame has. of_no_data g.T.Shaped.shape g.W.Width.size c.args.digest frame (has.0 (eqb-true (length c.args.front.now) 0 (sym c.if-is_empty.ensures)));
}

pub returns : goal.returns
returns g c = record {
  reads = λ frame has. let e = c.from_bytes_whole.ensures in
      of_data g.T.Shaped.shape g.W.Width.size c.args.digest frame _ (has.1 (omega (arith, eqb-false (length c.args.front.now) 0 (sym c.if-is_empty.ensures)))) _ e.gives e.accepts e.reads_back
      e.refuses_damage e.exact_errors e.named_error;
}

-- Each read appends to the bytes of the reads before. A failure is that of a read or of an allocation.
use Rattle.std.proofs.Common.{arith, length-append}
use Rattle.std.proofs.KnownBytes.{Consumes-trans}
use Rattle.std.proofs.lemmas.Bool.{false≢true}
use Rattle.std.proofs.lemmas.List.{length-take-le}
use Rattle.pcard_bytes.proofs.input.read_input.Goals as goal

pub returns-in-Err-clause-refused : goal.returns-in-Err-clause-refused
returns-in-Err-clause-refused g c = λ s. false≢true (c.in-Err.ensures.succeeds (c.reads.invariant.steady s))

pub returns-clause-refused : goal.returns-clause-refused
returns-clause-refused g c = (c.reads.held.items, c.reads.invariant.reader, omega arith)

pub reads-preserved : goal.reads-preserved
reads-preserved g c =
    let some = c.if-count-eq0.false in
    let long = length-take-le c.in-Ok.count c.read_some.new.buf c.in-Ok.ensures.bound.0 in
    record {
      reader = rw c.in_ok-extend_from_slice.ensures.items (Consumes-trans _ _ _ _ _ c.reads.invariant.reader c.in-Ok.ensures.bytes.0);
      steady = λ s. c.read_some.ensures.stays_steady (c.reads.invariant.steady s);
      count = rw c.in_ok-extend_from_slice.ensures.items (simp length-append (omega arith));
    }

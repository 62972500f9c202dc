-- Each read prints the lines of one piece more. Together they are the lines of all bytes that were read.
use Rattle.std.proofs.Common.{[], ◌++◌, refl, arith, length-append}
use Rattle.std.proofs.KnownBytes.{Consumes-nil}
use Rattle.std.proofs.lemmas.Result.{err_from_is_err_and}
use Rattle.pcard_message.proofs.StreamLemmas.{after_none, all_read, more_consumed, one_more_read, read_fails}
use Rattle.pcard_message.proofs.stream.print_frames.Goals as goal

pub reads-init : goal.reads-init
reads-init g c = record {
  same = refl;
  given = [];
  count = omega arith;
  reader = Consumes-nil _;
  steady = λ s. s;
  lines =
      after_none _ _ _ _ c.new-stream.ensures.limit c.new-stream.ensures.held c.new-stream.ensures.skipping c.new-stream.ensures.start c.new-stream.ensures.count;
}

pub returns-in_err-more-clause-refused : goal.returns-in_err-more-clause-refused
returns-in_err-more-clause-refused g c =
    let p = err_from_is_err_and c.from_residual.result c.from_residual.ensures.1 in
    let w = rw c.reads.invariant.same at c.reads.invariant.lines in
    rw (p.1, p.2)
    (read_fails _ _ c.reads.invariant.given _ _ _ _ _ _ c.reads.stream c.reads.stream w c.reads.invariant.reader _ _ c.in_err-more.field-0.0 c.reads.invariant.steady
    c.in_err-more.ensures.refused)

pub returns-then-not-more-clause-printed : goal.returns-then-not-more-clause-printed
returns-then-not-more-clause-printed g c =
    let w = rw c.reads.invariant.same at c.reads.invariant.lines in
    let r = rw c.reads.invariant.same at c.in_ok-more.ensures.read in
    all_read _ _ c.reads.invariant.given _ _ _ _ _ _ c.reads.stream _ w c.reads.invariant.reader _ r c.if-not-more.true

pub reads-preserved : goal.reads-preserved
reads-preserved g c =
    let i = c.reads.invariant in
    let r = c.in_ok-more.ensures.read in
    let some = r.some c.if-not-more.false in
    record {
      same = i.same;
      given = i.given ++ r.piece;
      count = (let n = length-append i.given r.piece in let k = i.count in omega arith);
      reader = more_consumed _ _ i.given _ _ _ _ _ _ c.reads.stream _ i.lines i.reader _ r;
      steady = λ s. c.read.ensures.stays_steady (i.steady s);
      lines = one_more_read _ _ i.given _ _ _ _ _ _ c.reads.stream _ i.lines i.reader _ r;
    }

pub returns-clause-refused : goal.returns-clause-refused
returns-clause-refused g c =
    let w = rw c.reads.invariant.same at c.reads.invariant.lines in
    let n = c.reads.invariant.count in
    (c.reads.invariant.given, omega arith, record { reader = c.reads.invariant.reader; lines = w.lines })

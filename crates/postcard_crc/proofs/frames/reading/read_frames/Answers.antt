-- Each turn is one read, whose bytes are fed.
use Rattle.std.proofs.Common.{arith, length, refl, ◌≡◌}
use Rattle.std.proofs.lemmas.List.{length-take-le}
use Rattle.postcard_accumulator.specs.declared.reading.ReadEnd.TheVariants.{End, ReadFailed}
use Rattle.postcard_crc.specs.Own.{IsOwn}
use Rattle.postcard_accumulator.proofs.ReadLoop.{no_read, read_on, read_stopped, read_ended}
use Rattle.postcard_accumulator.proofs.ReadLoop.{read_nothing, read_failed}
use Rattle.postcard_crc.proofs.frames.reading.read_frames.Goals as goal

pub loop-init : goal.loop-init
loop-init g c = record {
  so_far = no_read g.row.N (IsOwn g.T.Shaped.shape g.W.Width.size c.args.crc.now)
      (g.R.Read.remaining c.args.reader.now) c.args.acc.now c.args.out.now.items _
      c.held_fits.ensures.no_zero c.held_fits.ensures.room;
  steady = λ s. s;
}

pub loop-preserved : goal.loop-preserved
loop-preserved g c =
    let some = c.if-n-eq0.false in
    let none = c.if-left-gt0.false in
    let within = c.in-Ok.ensures.bound.0 in
    let long = length-take-le c.in-Ok.n c.read_some.new.buf within in
    record {
      so_far = read_on g.row.N (IsOwn g.T.Shaped.shape g.W.Width.size c.args.crc.now) _ _ _ _ _ _ _ _ _ _ _ c.loop.invariant.so_far _ _
          c.feed_all-left.ensures c.in-Ok.ensures.bytes.0 (omega arith) (omega arith) (omega arith);
      steady = λ s. c.read_some.ensures.stays_steady (c.loop.invariant.steady s);
    }

pub returns-in-Err-clause-stream : goal.returns-in-Err-clause-stream
returns-in-Err-clause-stream g c =
    let same : length c.read_some.new.buf ≡ length c.args.chunk.now = omega arith in
    read_ended g.row.N (IsOwn g.T.Shaped.shape g.W.Width.size c.args.crc.now) _
    (g.R.Read.remaining c.read_some.new.self) _ _ _ _ c.loop.counter
    (length c.args.chunk.now) c.args.reads c.read_some.new.buf ReadFailed
    (read_failed g.row.N (IsOwn g.T.Shaped.shape g.W.Width.size c.args.crc.now) _ _ _ _ _ _ _ _ _ c.loop.invariant.so_far
    c.in-Err.ensures.bytes)
    refl (omega arith) same (λ k h. tt)

pub returns-then-n-eq0-clause-stream : goal.returns-then-n-eq0-clause-stream
returns-then-n-eq0-clause-stream g c =
    let none = rw c.if-n-eq0.true at c.in-Ok.ensures.bytes.0 in
    let same : length c.read_some.new.buf ≡ length c.args.chunk.now = omega arith in
    read_ended g.row.N (IsOwn g.T.Shaped.shape g.W.Width.size c.args.crc.now) _
    (g.R.Read.remaining c.read_some.new.self) _ _ _ _ c.loop.counter
    (length c.args.chunk.now) c.args.reads c.read_some.new.buf End
    (read_nothing g.row.N (IsOwn g.T.Shaped.shape g.W.Width.size c.args.crc.now) _ _ _ _ _ _ _ _ _ c.loop.invariant.so_far none)
    refl (omega arith) same (λ k h. tt)

pub returns-then-left-gt0-clause-stream : goal.returns-then-left-gt0-clause-stream
returns-then-left-gt0-clause-stream g c =
    let same : length c.read_some.new.buf ≡ length c.args.chunk.now = omega arith in
    read_stopped g.row.N (IsOwn g.T.Shaped.shape g.W.Width.size c.args.crc.now) _ _ _ _ _ _ _ _ _ _ _ c.loop.invariant.so_far _ _
    c.feed_all-left.ensures c.in-Ok.ensures.bytes.0 c.args.reads _ _ _ c.loop-test.true
    c.if-left-gt0.true c.in-Ok.ensures.bound.0 refl refl same

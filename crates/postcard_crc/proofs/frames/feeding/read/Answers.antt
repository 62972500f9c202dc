-- By cases: the piece completed a frame with a value, a frame without one, or no frame.
use Rattle.std.proofs.Common.{[]}
use Rattle.postcard_crc.specs.Own.{IsOwn}
use Rattle.postcard_accumulator.proofs.Taking.{read_consumed, read_over_full, read_refused, read_err, read_ok}
use Rattle.postcard_crc.proofs.Own.{refused_none, refused_data, value_read}
use Rattle.postcard_crc.proofs.frames.feeding.read.Goals as goal

pub returns-in-Consumed : goal.returns-in-Consumed
returns-in-Consumed g c = rw c.in-Consumed.is (read_consumed (IsOwn g.T.Shaped.shape g.W.Width.size c.args.crc.now))

pub returns-in-OverFull : goal.returns-in-OverFull
returns-in-OverFull g c = rw c.in-OverFull.is (read_over_full (IsOwn g.T.Shaped.shape g.W.Width.size c.args.crc.now) _)

pub returns-in-DeserError : goal.returns-in-DeserError
returns-in-DeserError g c =
    let s = g.T.Shaped.shape in
    rw c.in-DeserError.is (read_refused (IsOwn s g.W.Width.size c.args.crc.now) _ (refused_none s g.W.Width.size c.args.crc.now))

pub returns-in-Ok : goal.returns-in-Ok
returns-in-Ok g c =
    let s = g.T.Shaped.shape in
    let k = g.W.Width.size in
    let a = c.args.crc.now in
    rw c.in-Success.is (read_ok (IsOwn s k a) _ _ _ (value_read s k a (λ w. w.0) _ c.digest.ensures _ c.in-Ok.owned c.in-Ok.ensures.gives))

pub returns-in-Err : goal.returns-in-Err
returns-in-Err g c =
    let s = g.T.Shaped.shape in
    let k = g.W.Width.size in
    let a = c.args.crc.now in
    rw c.in-Success.is (read_err (IsOwn s k a) _ _
    (refused_data s k a _ _ (λ t front crc read spelled sound is e. c.in-Err.ensures.accepts t a [] front crc read spelled sound c.digest.ensures is e)))

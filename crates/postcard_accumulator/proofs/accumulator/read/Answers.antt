use Rattle.postcard_accumulator.specs.Values.{IsOwn}
use Rattle.postcard_accumulator.proofs.Fronts.{refused_none, refused_data, value_read}
use Rattle.postcard_accumulator.proofs.Taking.{read_consumed, read_over_full}
use Rattle.postcard_accumulator.proofs.Taking.{read_refused, read_err, read_ok}
use Rattle.postcard_accumulator.proofs.accumulator.read.Goals as goal

pub returns-in-Consumed : goal.returns-in-Consumed
returns-in-Consumed g c = rw c.in-Consumed.is (read_consumed (IsOwn g.T.Shaped.shape))

pub returns-in-OverFull : goal.returns-in-OverFull
returns-in-OverFull g c = rw c.in-OverFull.is (read_over_full (IsOwn g.T.Shaped.shape) _)

pub returns-in-DeserError : goal.returns-in-DeserError
returns-in-DeserError g c = let s = g.T.Shaped.shape in
    rw c.in-DeserError.is (read_refused (IsOwn s) _ (refused_none s))

pub returns-in-Err : goal.returns-in-Err
returns-in-Err g c = let s = g.T.Shaped.shape in
    rw c.in-Success.is (read_err (IsOwn s) _ _ (refused_data s _ _ c.in-Err.ensures.accepts))

pub returns-in-Ok : goal.returns-in-Ok
returns-in-Ok g c =
    let s = g.T.Shaped.shape in
    let read = c.in-Ok.ensures.gives in
    rw c.in-Success.is (read_ok (IsOwn s) _ _ _ (value_read s (λ v. v) _ read.0 _ read.1))

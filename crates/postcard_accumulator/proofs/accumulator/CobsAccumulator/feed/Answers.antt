use Rattle.postcard_accumulator.specs.Values.{IsOwn}
use Rattle.postcard_accumulator.proofs.Fronts.{refused_none, refused_data}
use Rattle.postcard_accumulator.proofs.Taking.{read_refused, read_err}
use Rattle.postcard_accumulator.proofs.accumulator.CobsAccumulator.feed.Goals as goal

pub returns-in-DeserError : goal.returns-in-DeserError
returns-in-DeserError g c =
    let s = g.T.Shaped.shape in
    read_refused (IsOwn s) c.in-DeserError.remaining (refused_none s) g.row.N c.args.self.now
    c.args.input.now c.take_in.follows.lender-at-none
    (rw c.in-DeserError.is at c.take_in.follows.holds-at-none)

pub returns-in-Err : goal.returns-in-Err
returns-in-Err g c =
    let s = g.T.Shaped.shape in
    read_err (IsOwn s) c.in-Success.data c.in-Success.remaining
    (refused_data s _ _ c.in-Err.ensures.accepts) g.row.N c.args.self.now c.args.input.now
    c.take_in.follows.lender-at-none (rw c.in-Success.is at c.take_in.follows.holds-at-none)

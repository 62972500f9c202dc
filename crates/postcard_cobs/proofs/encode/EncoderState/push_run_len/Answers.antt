-- A run keeps the frame open, and each of its bytes is written as it is.
use Rattle.std.proofs.Common.{arith}
use Rattle.postcard_cobs.proofs.Runs.{run_open, run_adds}
use Rattle.postcard_cobs.proofs.encode.EncoderState.push_run_len.Goals as goal

pub returns-clause-steps : goal.returns-clause-steps
returns-clause-steps c run e z =
    let s = rw (← c.self.view_is) at c.requires.short in
    rw (← c.self.view_is, ← e) (run_adds run _ z (omega (arith, s, e)))

pub returns-clause-open : goal.returns-clause-open
returns-clause-open c run L d e z h =
    let s = rw (← c.self.view_is) at c.requires.short in
    rw (← e) (run_open run L d _ z (omega (arith, s, e)) (rw (← c.self.view_is) at h))

-- The open frame, with its last code and the zero, is the made frame.
use Rattle.std.proofs.Common.{[], ◌∷◌, ◌++◌, ap, ◌∙◌}
use Rattle.std.proofs.lemmas.Result.{on_ok_weaker}
use Rattle.postcard_ser_cobs.proofs.StepLemmas.{ends}
use Rattle.postcard_ser_cobs.proofs.cobs.Cobs.close.Goals as goal

pub returns-clause-holds_frame : goal.returns-clause-holds_frame
returns-clause-holds_frame g c =
    let sets = rw (c.finalize-place.ensures.0, c.finalize-place.ensures.1) at c.set_code.ensures.sets in
    on_ok_weaker c.push_one-closed.result
    (λ appends before d h. appends ∙ ap (λ l. l ++ 0 ∷ []) sets ∙ ends h)
    c.push_one-closed.ensures.appends

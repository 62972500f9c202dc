-- The lines of one piece that is the whole input.
use Rattle.std.proofs.lemmas.Result.{on_ok_weaker}
use Rattle.pcard_message.proofs.StreamLemmas.{one_piece}
use Rattle.pcard_message.proofs.stream.print_frames_of.Goals as goal

pub returns-clause-printed : goal.returns-clause-printed
returns-clause-printed g c =
    let n = c.new-stream.ensures in
    on_ok_weaker c.take.result (λ h. one_piece _ _ _ _ _ _ _ n.limit n.held n.skipping n.start n.count h) c.take.ensures.printed

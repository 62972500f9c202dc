-- The held bytes are the frame, so its line is the frame's answer.
use Rattle.std.proofs.Common.{arith}
use Rattle.std.proofs.lemmas.Result.{on_ok_weaker}
use Rattle.pcard_print.specs.Answers.{plain_answer, refused}
use Rattle.pcard_message.specs.Stream.{overfull}
use Rattle.pcard_message.proofs.StreamLemmas.{frame_answer, long_answer}
use Rattle.pcard_message.proofs.stream.Stream.print_frame.Goals as goal

pub returns-then-len-self-clause-printed : goal.returns-then-len-self-clause-printed
returns-then-len-self-clause-printed g c =
    on_ok_weaker c.print_overfull.result (λ h free. (refused overfull, long_answer _ _ _ (omega arith), h)) c.print_overfull.ensures.printed

pub returns-clause-printed : goal.returns-clause-printed
returns-clause-printed g c =
    let right = rw c.deref.ensures.value at c.in-Ok.ensures in
    on_ok_weaker c.print_line.result (λ h free. (plain_answer c.in-Ok.answer, frame_answer _ _ _ _ (omega arith) (right free), h)) c.print_line.ensures.printed

use Rattle.std.proofs.Common.{◌≡◌, ◌++◌, take, ap, ◌∙◌, arith}
use Rattle.std.proofs.lemmas.Grind.{common_steps}
use Rattle.std.proofs.lemmas.List.{append-nil}
use Rattle.postcard_accumulator.specs.Reading.{unfed}
use Rattle.std.proofs.KnownBytes.{Appends-trans}
use Rattle.pcard_calls.proofs.Lines.{lines_more}
use Rattle.pcard_calls.proofs.frames.print.Goals as goal

pub loop-answer-preserved : goal.loop-answer-preserved
loop-answer-preserved g c =
    rw (lines_more c.deref-answer-items.result.now c.loop-answer.answer-index c.answer-item.result (omega arith) c.answer-item.is)
    (Appends-trans _ _ _ _ _ c.loop-answer.invariant c.in_ok-print_answer.ensures)

pub returns-in-End-clause-printed : goal.returns-in-End-clause-printed
returns-in-End-clause-printed g c =
    let r = c.read_frames-end.ensures.stream in
    let xs = c.deref-answer-items.result.now in
    let all : r.given ≡ r.fed = r.all ∙ ap (λ e. r.fed ++ unfed c.read_frames-end.new.chunk e) c.in-End.is ∙ append-nil r.fed in
    let same : xs ≡ r.answers = c.deref-answer-items.ensures.value ∙ r.items ∙ ap (λ t. t ++ r.answers) c.new-answers.ensures.items in
    let whole : take c.loop-answer.answer-index xs ≡ xs = grind (arith, common_steps) in (
      r.fed,
      (r.answers, c.read_frames-end.new.acc, rw all at r.reader, rw c.new-accumulator.ensures at r.is, rw (whole, same) at c.loop-answer.invariant),
      c.read_frames-end.ensures.at_end c.in-End.is,
    )

pub returns-in-Limit-clause-refused : goal.returns-in-Limit-clause-refused
returns-in-Limit-clause-refused g c =
    let r = c.read_frames-end.ensures.stream in
    let xs = c.deref-answer-items.result.now in
    let all : r.given ≡ r.fed = r.all ∙ ap (λ e. r.fed ++ unfed c.read_frames-end.new.chunk e) c.in-Limit.is ∙ append-nil r.fed in
    let same : xs ≡ r.answers = c.deref-answer-items.ensures.value ∙ r.items ∙ ap (λ t. t ++ r.answers) c.new-answers.ensures.items in
    let whole : take c.loop-answer.answer-index xs ≡ xs = grind (arith, common_steps) in (
      r.fed,
      rw all at (rw c.in-Limit.is at r.ends),
      (r.answers, c.read_frames-end.new.acc, rw all at r.reader, rw c.new-accumulator.ensures at r.is, rw (whole, same) at c.loop-answer.invariant),
    )

pub returns-in-ReadFailed-clause-refused : goal.returns-in-ReadFailed-clause-refused
returns-in-ReadFailed-clause-refused g c =
    let r = c.read_frames-end.ensures.stream in
    let xs = c.deref-answer-items.result.now in
    let all : r.given ≡ r.fed = r.all ∙ ap (λ e. r.fed ++ unfed c.read_frames-end.new.chunk e) c.in-ReadFailed.is ∙ append-nil r.fed in
    let same : xs ≡ r.answers = c.deref-answer-items.ensures.value ∙ r.items ∙ ap (λ t. t ++ r.answers) c.new-answers.ensures.items in
    let whole : take c.loop-answer.answer-index xs ≡ xs = grind (arith, common_steps) in (
      λ steady. c.read_frames-end.ensures.steady_never_fails steady c.in-ReadFailed.is,
      (
        r.fed,
        (r.answers, c.read_frames-end.new.acc, rw all at r.reader, rw c.new-accumulator.ensures at r.is, rw (whole, same) at c.loop-answer.invariant),
      ),
    )

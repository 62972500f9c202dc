use Rattle.std.proofs.Common.{length, ap, inl, inr, rules, arith}
use Rattle.postcard_source.specs.Steps.{none, more}
use Rattle.postcard_source.specs.Lexical.{IsBlockComment}
use Rattle.postcard_source.proofs.Comments.{step_bound, never_closed}
use Rattle.postcard_source.proofs.lex.after_block_comment.Goals as goal

pub bytes-init : goal.bytes-init
bytes-init c = (c.in-Some.inner.now, search rules, none, omega arith, omega arith)

pub bytes-preserved : goal.bytes-preserved
bytes-preserved c =
    let (inner, begins, steps, open_now, bound) = c.bytes.invariant in
    let next = step_bound (c.bytes.depth, c.bytes.rest.now) (c.in-Some-in_comment.next, c.in-Some-in_comment.after.now) c.in-Some-in_comment.ensures.step in
    (inner, begins, more steps (c.in-Some-in_comment.ensures.step, omega arith), omega arith, omega (arith, bound, next))

pub returns-clause-open : goal.returns-clause-open
returns-clause-open c = λ rest.
    let (inner, begins, steps, open_now, bound) = c.bytes.invariant in
    elim c.in_default-in_comment.ensures.none as (λ _. IsBlockComment c.args.text.now rest → ⊥) [
      | inl empty ↦ never_closed c.args.text.now inner rest (c.bytes.depth, c.bytes.rest.now) begins steps empty
      | inr (inl closed) ↦ absurd (omega (arith, open_now, closed))
      | inr (inr most) ↦ (let size = ap length begins in absurd (omega (arith, size, bound, most)))
    ]

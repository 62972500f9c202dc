-- If a difference with a moved name is found, it is the one that the clause asks for.
use Rattle.std.proofs.Common.{sym, subst, ◌∙◌, arith}
use Rattle.postcard_compat.specs.Comparing.{HasMove}
use Rattle.postcard_compat.proofs.comparison.has_move.Goals as goal

pub returns-then-is_move : goal.returns-then-is_move
returns-then-is_move c = λ yes.
    subst HasMove c.deref-difference-items.ensures.value
    (c.loop-difference.difference-index, c.difference-item.result, omega arith, c.difference-item.is, sym c.is_move.ensures ∙ c.if-is_move.true)

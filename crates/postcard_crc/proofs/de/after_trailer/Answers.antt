-- `rest` is the trailer and then the bytes after it.
use Rattle.std.proofs.Common.{ℕ, List, ◌++◌, length, sym, ap₂, ◌∙◌, take-append-drop}
use Rattle.postcard_crc.proofs.Split.{begins_with, follows}
use Rattle.postcard_crc.proofs.de.after_trailer.Goals as goal

pub returns-then-are_same-clause-gives : goal.returns-then-are_same-clause-gives
returns-then-are_same-clause-gives c =
    sym (take-append-drop (length c.args.trailer.now) c.args.rest.now)
    ∙ ap₂ (λ (x y : List ℕ). x ++ y) (sym c.split_at.ensures.front ∙ c.are_same.ensures.0 c.if-are_same.true) (sym c.split_at.ensures.back)

pub returns-then-are_same-clause-accepts : goal.returns-then-are_same-clause-accepts
returns-then-are_same-clause-accepts c after e = c.split_at.ensures.back ∙ follows c.args.trailer.now after c.args.rest.now e

pub returns-else-are_same-clause-accepts : goal.returns-else-are_same-clause-accepts
returns-else-are_same-clause-accepts c after e =
    let same = c.are_same.ensures.1 (c.split_at.ensures.front ∙ begins_with c.args.trailer.now after c.args.rest.now e) in
    let other = c.if-are_same.false in
    cc

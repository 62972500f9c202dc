use Rattle.std.proofs.Common.{◌≡◌, ◌+◌, ◌-◌, length, take, drop, ap, subst, ◌∙◌, arith, length-drop}
use Rattle.postcard_schema_text.specs.Text.{characters}
use Rattle.postcard_source.specs.Places.{IsLineStart}
use Rattle.postcard_source.proofs.place.error_at.Goals as goal

pub returns-clause-place : goal.returns-clause-place
returns-clause-place c =
    let file = c.args.file.now in let left = c.args.problem_at.left in let start = c.line_start.result in
    let size : length (drop start file) - left ≡ (length file - left) - start = omega (arith, length-drop start file) in
    let counted = ap (λ text. characters (take (length text - left) text) + 1) c.split_at.ensures.back in (
      omega arith,
      c.line_of.ensures,
      (
        start,
        subst (IsLineStart file start) c.saturating_sub.ensures c.line_start.ensures,
        c.character_of.ensures.counted ∙ counted ∙ ap (λ n. characters (take n (drop start file)) + 1) size,
      ),
    )

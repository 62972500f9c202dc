-- Two cases: an array of elements without parts has no parts, and a long array is kept.
use Rattle.std.proofs.Common.{◌≡◌, ◌∷◌, [], length, sym, subst, arith}
use Rattle.std.proofs.lemmas.Grind.{common_steps}
use Rattle.std.proofs.lemmas.Result.{IfOk-weaker}
use Rattle.postcard_schema.specs.Meaning.{array, group, row_of}
use Rattle.postcard_compat.specs.Parts.{part_types}
use Rattle.postcard_compat.specs.Serving.{SameRows}
use Rattle.postcard_compat.proofs.Flattening.{flat_empty, flat_kept, no_items}
use Rattle.postcard_compat.proofs.flat.array_row.Goals as goal

pub returns-then-is_empty : goal.returns-then-is_empty
returns-then-is_empty c =
    let es = c.args.element.items in
    let none : length es ≡ 0 = grind (arith, common_steps) in
    subst (λ ns. SameRows (part_types ns) (array c.args.count (group (row_of (part_types es))) ∷ [])) (sym c.new.ensures.items)
    (flat_empty es c.args.count (no_items es none))

pub returns-then-count-len : goal.returns-then-count-len
returns-then-count-len c =
    let es = part_types c.args.element.items in
    IfOk-weaker c.single.result _ _ (λ row h. h (array c.args.count (group (row_of es)))
    (flat_kept c.grouped.result c.in_ok-new.field-0 c.args.count es c.in_ok-new.ensures.ok c.grouped.ensures)) c.single.ensures

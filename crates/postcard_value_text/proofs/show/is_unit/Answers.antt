-- A type is the unit if it is a tuple or a struct without parts.
use Rattle.std.proofs.Common.{◌≡◌, length, vec_len, sym, ap, ◌∙◌, arith}
use Rattle.std.specs.Bool.{◌==◌}
use Rattle.std.proofs.lemmas.Grind.{common_steps}
use Rattle.postcard_schema.specs.Lemmas.{type_of_tuple}
use Rattle.postcard_schema.specs.Meaning.{group}
use Rattle.postcard_value_text.proofs.Layouts.{is_nothing, layout_of_tuple, no_part}
use Rattle.postcard_value_text.proofs.show.is_unit.Goals as goal

pub returns-in-Tuple-clause-empty : goal.returns-in-Tuple-clause-empty
returns-in-Tuple-clause-empty c =
    let v = c.in-Tuple.parts in
    let n : vec_len v ≡ length v.items = grind (arith, common_steps) in
    rw (c.in-Tuple.is, layout_of_tuple v) (c.is_empty.ensures ∙ ap (λ k. k == 0) n ∙ is_nothing v.items)

pub returns-in-Tuple-clause-unit : goal.returns-in-Tuple-clause-unit
returns-in-Tuple-clause-unit c = λ yes.
    let v = c.in-Tuple.parts in
    let n : vec_len v ≡ length v.items = grind (arith, common_steps) in
    rw (c.in-Tuple.is, type_of_tuple v) (ap group (no_part v.items (ap (λ k. k == 0) (sym n) ∙ sym c.is_empty.ensures ∙ yes)))

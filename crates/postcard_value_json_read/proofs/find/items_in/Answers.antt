-- The JSON is an array of the wanted length if and only if its items are returned.
use Rattle.std.proofs.Common.{◌≡◌, length, vec_len, sym, ap, ◌∙◌, arith}
use Rattle.std.proofs.lemmas.Grind.{common_steps}
use Rattle.serde_json.specs.Data as values
use Rattle.serde_json.specs.Events.{items_len}
use Rattle.serde_json.specs.View.{view, items_view}
use Rattle.serde_json.proofs.Views.{items_len-items_view}
use Rattle.postcard_value_json_read.proofs.Groups.{same_items}
use Rattle.postcard_value_json_read.proofs.Forms.{array_is, no_array}
use Rattle.postcard_value_json_read.proofs.find.items_in.Goals as goal

pub returns-in_default-clause-none : goal.returns-in_default-clause-none
returns-in_default-clause-none c = λ ds is long. no_array (view c.args.json.now) ds (rw c.in_default.is at c.as_array.ensures) is

pub returns-then-len-count-clause-none : goal.returns-then-len-count-clause-none
returns-then-len-count-clause-none c =
    let d = view c.args.json.now in
    let v = c.in-Some.items.now in
    let form : d ≡ values.array (items_view v.items) = array_is d (items_view v.items) (rw c.in-Some.is at c.as_array.ensures) in
    λ ds is long.
    let same : items_len ds ≡ vec_len v = ap items_len (same_items (items_view v.items) ds (sym form ∙ is)) ∙ items_len-items_view v.items ∙ grind (arith, common_steps) in
    c.if-len-count.true (c.len.ensures ∙ sym same ∙ long)

pub returns-clause-found : goal.returns-clause-found
returns-clause-found c =
    let d = view c.args.json.now in
    let v = c.in-Some.items.now in
    let size : length v.items ≡ vec_len v = grind (arith, common_steps) in
    (array_is d (items_view v.items) (rw c.in-Some.is at c.as_array.ensures), size ∙ sym c.len.ensures ∙ c.if-len-count.false)

-- A variant of the unit is a string, and any other an object with one member.
use Rattle.std.proofs.Common.{◌≡◌, string_bytes, sym, ap, ◌∙◌, inl, inr}
use Rattle.serde_json.specs.Data.{string}
use Rattle.serde_json.specs.View.{view}
use Rattle.postcard_value_text.specs.Layout.{layout_of}
use Rattle.postcard_value_json.specs.Written.{alone}
use Rattle.postcard_value_json_read.specs.Reading.{IsJsonOf}
use Rattle.postcard_value_json_read.proofs.Variants.{some_found, unit_content}
use Rattle.postcard_value_json_read.proofs.find.is_called.Goals as goal

pub returns-then-is_unit-clause-called : goal.returns-then-is_unit-clause-called
returns-then-is_unit-clause-called c = λ yes.
    let n = string_bytes c.args.variant.now.name in
    let same : view c.args.json.now ≡ string n = c.is_text.ensures.same yes ∙ ap string c.deref.ensures in
    inl same

pub returns-then-is_unit-clause-other : goal.returns-then-is_unit-clause-other
returns-then-is_unit-clause-other c = λ no t h.
    let v = c.args.variant.now in
    let n = string_bytes v.name in
    let x = layout_of v.content in
    let k = unit_content n x (IsJsonOf x) t (view c.args.json.now) (sym c.is_unit.ensures.empty ∙ c.if-is_unit.true) h in
    c.is_text.ensures.other no (k.1 ∙ ap string (sym c.deref.ensures))

pub returns-else-is_unit-clause-called : goal.returns-else-is_unit-clause-called
returns-else-is_unit-clause-called c = λ yes.
    let n = string_bytes c.args.variant.now.name in
    let found = some_found c.only_member.result c.deref-else-is_unit.result.now (view c.args.json.now) (sym c.is_some.ensures ∙ yes) c.only_member.ensures.found in
    let same : view c.args.json.now ≡ alone n found.0 = found.1 ∙ ap (λ m. alone m found.0) c.deref-else-is_unit.ensures in
    inr (found.0, same)

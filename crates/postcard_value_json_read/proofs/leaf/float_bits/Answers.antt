-- A JSON number gives the nearest float. A string is read as a float's text, up to its end.
use Rattle.std.proofs.Common.{◌≡◌, [], length, sym, ap, subst, ◌∙◌, true≢false}
use Rattle.std.specs.Bool.{◌==◌}
use Rattle.postcard_value_text.specs.Floats.{SpellsFloat, format_of}
use Rattle.serde_json.specs.Data.{string}
use Rattle.serde_json.specs.View.{view}
use Rattle.postcard_value_json_read.specs.Reading.{IsFloatJson}
use Rattle.postcard_value_json_read.proofs.Forms.{string_is}
use Rattle.postcard_value_json_read.proofs.Leaves.{taken_whole, whole_taken, ends_float}
use Rattle.postcard_value_json_read.proofs.Ends.{none_left}
use Rattle.postcard_value_json_read.proofs.leaf.float_bits.Goals as goal

pub returns-in_default-read_float : goal.returns-in_default-read_float
returns-in_default-read_float c =
    let d = view c.args.json.now in
    let float = c.args.float in
    let text = c.in-Some-as_str.text.now in
    let form : d ≡ string text = string_is d text (rw c.in-Some-as_str.is at c.as_str.ensures) in
    λ bits h. c.in_default-read_float.ensures.reads_back bits [] (rw c.as_bytes-rest.ensures.value (whole_taken (SpellsFloat (format_of float) bits) text (subst (IsFloatJson float bits) form h))) ends_float

pub returns-then-is_empty : goal.returns-then-is_empty
returns-then-is_empty c =
    let d = view c.args.json.now in
    let float = c.args.float in
    let text = c.in-Some-as_str.text.now in
    let bits = c.in-Ok.bits in
    let left = c.read_float.new.rest.now in
    let form : d ≡ string text = string_is d text (rw c.in-Some-as_str.is at c.as_str.ensures) in
    let none : left ≡ [] = none_left left (sym c.is_empty.ensures ∙ c.if-is_empty.true) in
    let spelled : SpellsFloat (format_of float) bits text = subst (λ s. SpellsFloat (format_of float) bits s) c.as_bytes-rest.ensures.value (taken_whole (SpellsFloat (format_of float) bits) c.as_bytes-rest.result.now left c.in-Ok.ensures.spelled none) in (
      subst (IsFloatJson float bits) (sym form) spelled,
      λ other h. sym (c.in-Ok.ensures.reads_back other [] (rw c.as_bytes-rest.ensures.value (whole_taken (SpellsFloat (format_of float) other) text (subst (IsFloatJson float other) form h))) ends_float).0,
    )

pub returns : goal.returns
returns c =
    let d = view c.args.json.now in
    let float = c.args.float in
    let text = c.in-Some-as_str.text.now in
    let form : d ≡ string text = string_is d text (rw c.in-Some-as_str.is at c.as_str.ensures) in
    λ bits h.
    let k = c.in-Ok.ensures.reads_back bits [] (rw c.as_bytes-rest.ensures.value (whole_taken (SpellsFloat (format_of float) bits) text (subst (IsFloatJson float bits) form h))) ends_float in
    absurd (true≢false (sym (ap (λ xs. length xs == 0) k.1) ∙ sym c.is_empty.ensures ∙ c.if-is_empty.false))

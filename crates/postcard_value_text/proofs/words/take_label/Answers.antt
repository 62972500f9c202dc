-- A label is a field's name and then `:`.
use Rattle.std.proofs.Common.{refl, sym, subst}
use Rattle.postcard_schema_text.specs.FrontLemmas.{takes_split, sign_ends_word}
use Rattle.postcard_schema_text.specs.Phrases.{takes_two}
use Rattle.postcard_value_text.specs.{IsFieldName, IsSign, TakesPhrase}
use Rattle.postcard_value_text.proofs.Blanks.{field_more, field_trimmed}
use Rattle.std.proofs.lemmas.Result.{on_ok_weaker}
use Rattle.postcard_value_text.proofs.words.take_label.Goals as goal

pub returns-then-not-take_field-clause-accepted : goal.returns-then-not-take_field-clause-accepted
returns-then-not-take_field-clause-accepted c = λ some after h.
    let name = c.args.name.now in
    let k = takes_split (IsFieldName name) (IsSign 58) c.args.rest.now.now after h in
    let word = field_trimmed name c.args.rest.now.now c.skip_blanks.new.rest.now k.0 c.skip_blanks.ensures some k.1 in
    absurd (c.take_field.ensures.none c.if-not-take_field.true (rw c.as_bytes.ensures.value some) k.0 (rw c.as_bytes.ensures.value word) (sign_ends_word 58 k.0 after refl k.2))

pub returns-clause-taken : goal.returns-clause-taken
returns-clause-taken c =
    let name = c.args.name.now in
    let word = field_more name c.args.rest.now.now c.skip_blanks.new.rest.now c.take_field.new.rest.now c.skip_blanks.ensures
    (rw c.as_bytes.ensures.value at (c.take_field.ensures.taken c.if-not-take_field.false)) in
    on_ok_weaker c.expect.result (takes_two (IsFieldName name) (IsSign 58) c.args.rest.now.now c.take_field.new.rest.now c.expect.new.rest.now word) c.expect.ensures.taken

pub returns-clause-accepted : goal.returns-clause-accepted
returns-clause-accepted c = λ some after h.
    let name = c.args.name.now in
    let k = takes_split (IsFieldName name) (IsSign 58) c.args.rest.now.now after h in
    let word = field_trimmed name c.args.rest.now.now c.skip_blanks.new.rest.now k.0 c.skip_blanks.ensures some k.1 in
    let at = c.take_field.ensures.one c.if-not-take_field.false (rw c.as_bytes.ensures.value some) k.0 (rw c.as_bytes.ensures.value word) (sign_ends_word 58 k.0 after refl k.2) in
    c.expect.ensures.accepted after refl (subst (λ z. TakesPhrase (IsSign 58) z after) (sym at) k.2)

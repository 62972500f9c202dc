-- A field's name is a word or stands between quotes. It can't be both, so what is taken is the only one there.
use Rattle.std.proofs.Common.{sym, subst, ◌∙◌, inl, inr}
use Rattle.postcard_schema_text.specs.Phrases.{takes_as}
use Rattle.postcard_value_text.specs.{IsFieldName, IsQuotedName, IsWord, TakesPhrase}
use Rattle.postcard_value_text.proofs.Blanks.{field_is, word_or_quote}
use Rattle.postcard_value_text.proofs.words.take_field.Goals as goal

pub returns-then-take_name-clause-taken : goal.returns-then-take_name-clause-taken
returns-then-take_name-clause-taken c = λ _.
    takes_as (IsWord c.args.name.now) (IsFieldName c.args.name.now) c.args.rest.now.now c.take_name.new.rest.now (λ t k. inl k) (c.take_name.ensures.taken c.if-take_name.true)

pub returns-then-take_name-clause-one : goal.returns-then-take_name-clause-one
returns-then-take_name-clause-one c = λ _ some after h ends. elim (field_is c.args.name.now c.args.rest.now.now after h) [
  | inl word ↦ c.take_name.ensures.one c.if-take_name.true some after word ends
  | inr quoted ↦ absurd (word_or_quote c.args.name.now c.args.rest.now.now c.take_name.new.rest.now after some (c.take_name.ensures.taken c.if-take_name.true) quoted)
]

pub returns-clause-taken : goal.returns-clause-taken
returns-clause-taken c = λ e.
    let start = c.take_name.ensures.left c.if-take_name.false in
    takes_as (IsQuotedName c.args.name.now) (IsFieldName c.args.name.now) c.args.rest.now.now c.take_quoted_name.new.rest.now (λ t k. inr k)
    (subst (λ z. TakesPhrase (IsQuotedName c.args.name.now) z c.take_quoted_name.new.rest.now) start (c.take_quoted_name.ensures.taken e))

pub returns-clause-one : goal.returns-clause-one
returns-clause-one c = λ e some after h ends.
    let start = c.take_name.ensures.left c.if-take_name.false in elim (field_is c.args.name.now c.args.rest.now.now after h) [
      | inl word ↦ absurd (c.take_name.ensures.none c.if-take_name.false some after word ends)
      | inr quoted ↦ c.take_quoted_name.ensures.one e after (subst (λ z. TakesPhrase (IsQuotedName c.args.name.now) z after) (sym start) quoted)
    ]

pub returns-clause-left : goal.returns-clause-left
returns-clause-left c = λ e. c.take_quoted_name.ensures.left e ∙ c.take_name.ensures.left c.if-take_name.false

pub returns-clause-none : goal.returns-clause-none
returns-clause-none c = λ e some after h ends.
    let start = c.take_name.ensures.left c.if-take_name.false in elim (field_is c.args.name.now c.args.rest.now.now after h) [
      | inl word ↦ c.take_name.ensures.none c.if-take_name.false some after word ends
      | inr quoted ↦ c.take_quoted_name.ensures.none e after (subst (λ z. TakesPhrase (IsQuotedName c.args.name.now) z after) (sym start) quoted)
    ]

-- `begins_enum` is right in each case: a `|` is next, another word than a variant's name, or a variant's name.
use Rattle.std.proofs.Common.{refl, sym, ◌∙◌, subst, true≢false}
use Rattle.postcard_schema_text.specs.Text.{TakesPhrase, IsWord}
use Rattle.postcard_schema_text.specs.FrontLemmas.{WordTaken, word_taken}
use Rattle.postcard_schema_text.proofs.LeftOfType.{enum_bar_next, enum_if, enum_unless}
use Rattle.postcard_schema_text.proofs.ahead.begins_enum.Goals as goal

pub returns-then-take : goal.returns-then-take
returns-then-take c = enum_bar_next c.args.text.now c.take.new.rest.now (c.take.ensures.taken c.if-take.true)

pub returns-then-not-is_variant_name : goal.returns-then-not-is_variant_name
returns-then-not-is_variant_name c =
    let word = c.take_word-word in
    let same = c.take.ensures.left c.if-take.false in
    let taken = subst (λ z. WordTaken z word.result.now word.new.rest.now) same (word_taken word.ensures.taken word.ensures.first word.ensures.whole) in
    enum_unless c.args.text.now word.result.now word.new.rest.now (c.take.ensures.none c.if-take.false refl) taken
    (λ named. true≢false (sym (c.is_variant_name.ensures.1 named) ∙ c.if-not-is_variant_name.true))

pub returns : goal.returns
returns c =
    let word = c.take_word-word in
    let name = word.result.now in
    let same = c.take.ensures.left c.if-take.false in
    let taken = subst (λ z. WordTaken z name word.new.rest.now) same (word_taken word.ensures.taken word.ensures.first word.ensures.whole) in
    let phrase = subst (λ z. TakesPhrase (IsWord name) z word.new.rest.now) same word.ensures.taken in
    enum_if c.args.text.now name word.new.rest.now c.follows_name.result (c.take.ensures.none c.if-take.false refl) taken phrase (c.is_variant_name.ensures.0 c.if-not-is_variant_name.false) c.follows_name.ensures

-- `begins_field` is right in each case: a word and then `:` or not, or no word.
use Rattle.std.proofs.Common.{◌≡◌, ◌<◌, false, not, length, refl, arith}
use Rattle.std.proofs.lemmas.Grind.{common_steps}
use Rattle.postcard_schema_text.specs.FrontLemmas.{word_taken}
use Rattle.postcard_schema_text.proofs.LeftOfFields.{named_if, named_unless}
use Rattle.postcard_schema_text.proofs.ahead.begins_field.Goals as goal

pub returns-then-not-is_empty : goal.returns-then-not-is_empty
returns-then-not-is_empty c =
    let word = c.take_word-word in
    let filled : 0 < length word.result.now = grind (arith, common_steps) in
    named_if c.args.text.now word.result.now word.new.rest.now c.take.new.rest.now c.take.result (word_taken word.ensures.taken word.ensures.first word.ensures.whole) word.ensures.taken filled
    c.take.ensures.taken (λ missed. c.take.ensures.none missed refl)

pub returns-else-not-is_empty : goal.returns-else-not-is_empty
returns-else-not-is_empty c =
    let word = c.take_word-word in
    let none : length word.result.now ≡ 0 = grind (arith, common_steps) in
    let is : not c.is_empty.result ≡ false = grind (arith, common_steps) in
    named_unless c.args.text.now word.result.now word.new.rest.now _ (word_taken word.ensures.taken word.ensures.first word.ensures.whole) none is

-- `take_count` takes one word. The word denotes the count, and a word that it refuses denotes no count below 2^64.
use Rattle.std.proofs.Common.{◌≡◌, ◌<◌, ◌^◌, arith, subst, ◌∙◌}
use Rattle.postcard_schema_text.specs.Literals.{IsLiteral}
use Rattle.postcard_schema_text.specs.Text.{IsWord, IsCount}
use Rattle.postcard_schema_text.specs.Phrases.{takes_as}
use Rattle.postcard_schema_text.specs.FrontLemmas.{word_taken}
use Rattle.postcard_schema_text.specs.LiteralLemmas.{one_literal}
use Rattle.postcard_schema_text.proofs.Literals.{count_of}
use Rattle.postcard_schema_text.proofs.scan.take_count.Goals as goal

pub returns-in-Err-Malformed-clause-none : goal.returns-in-Err-Malformed-clause-none
returns-in-Err-Malformed-clause-none c n after h ends =
    let word = c.take_word-word in
    let count = count_of n c.args.rest.now.now word.result.now word.new.rest.now after (word_taken word.ensures.taken word.ensures.first word.ensures.whole) h ends in
    rw c.in-Err-Malformed.field-0-is at c.in-Err-Malformed.ensures.refused n count.says

pub returns-in-Err-TooLarge-clause-none : goal.returns-in-Err-TooLarge-clause-none
returns-in-Err-TooLarge-clause-none c n after h ends =
    let word = c.take_word-word in
    let count = count_of n c.args.rest.now.now word.result.now word.new.rest.now after (word_taken word.ensures.taken word.ensures.first word.ensures.whole) h ends in
    let large = rw c.in-Err-TooLarge.field-0-is at c.in-Err-TooLarge.ensures.refused in
    let same = one_literal large.0 n word.result.now large.1 count.says in
    omega (arith, same, large.2, count.low)

pub returns-in-Ok-try_from-clause-taken : goal.returns-in-Ok-try_from-clause-taken
returns-in-Ok-try_from-clause-taken c =
    let word = c.take_word-word in
    let same : c.in-Ok.number ≡ c.in-Ok-try_from.count = omega (arith, c.in-Ok-try_from.ensures) in
    let low : c.in-Ok-try_from.count < 2 ^ 64 = omega (arith, c.in-Ok-try_from.ensures) in
    let says = subst (λ n. IsLiteral n word.result.now) same c.in-Ok.ensures.spelled in
    takes_as (IsWord word.result.now) (IsCount c.in-Ok-try_from.count) c.args.rest.now.now word.new.rest.now (λ t h. (word.result.now, says, low, h.1)) word.ensures.taken

pub returns-in-Ok-try_from-clause-one : goal.returns-in-Ok-try_from-clause-one
returns-in-Ok-try_from-clause-one c n after h ends =
    let word = c.take_word-word in
    let count = count_of n c.args.rest.now.now word.result.now word.new.rest.now after (word_taken word.ensures.taken word.ensures.first word.ensures.whole) h ends in
    let same : c.in-Ok.number ≡ c.in-Ok-try_from.count = omega (arith, c.in-Ok-try_from.ensures) in
    (one_literal n c.in-Ok.number word.result.now count.says c.in-Ok.ensures.spelled ∙ same, count.left)

pub returns-in-Err-clause-none : goal.returns-in-Err-clause-none
returns-in-Err-clause-none c n after h ends =
    let word = c.take_word-word in
    let count = count_of n c.args.rest.now.now word.result.now word.new.rest.now after (word_taken word.ensures.taken word.ensures.first word.ensures.whole) h ends in
    let same = one_literal n c.in-Ok.number word.result.now count.says c.in-Ok.ensures.spelled in
    omega (arith, same, count.low, c.in-Err.ensures)

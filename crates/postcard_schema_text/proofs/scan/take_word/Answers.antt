-- `take_word` takes blanks and all bytes of a word, and stops at the first other byte.
use Rattle.std.proofs.Common.{◌≡◌, ◌<◌, false, length, get_or, refl, arith}
use Rattle.std.proofs.lemmas.Grind.{common_steps}
use Rattle.std.specs.List.{AllPass}
use Rattle.postcard_schema_text.specs.Text.{is_of_word, Led, IsWord}
use Rattle.postcard_schema_text.specs.Phrases.{all_take, trim_takes, led, takes_as}
use Rattle.postcard_schema_text.specs.FrontLemmas.{ends_at}
use Rattle.postcard_schema_text.proofs.scan.take_word.Goals.{then-letters-test+else-is_of_word, else-letters-test}
use Rattle.postcard_schema_text.proofs.scan.take_word.Goals as goal

pub returns-clause-taken : goal.returns-clause-taken
returns-clause-taken c =
    let before = c.args.rest.now.now in
    let all = c.skip_blanks.new.rest.now in
    let word = c.split_at.result.0.now in
    let after = c.split_at.result.1.now in
    let pass : AllPass is_of_word word = rw c.split_at.ensures.front (all_take is_of_word c.letters.count all c.letters.invariant.0 c.letters.invariant.1) in
    takes_as (Led (λ phrase. phrase ≡ word)) (IsWord word) before after (λ t h. (pass, h))
    (led (λ phrase. phrase ≡ word) before all after (trim_takes before all c.skip_blanks.ensures) (word, refl, c.split_at.ensures.by_index.0))

pub returns-clause-first : goal.returns-clause-first
returns-clause-first c = (c.skip_blanks.new.rest.now, c.skip_blanks.ensures, c.split_at.ensures.by_index.0)

pub returns-clause-whole : goal.returns-clause-whole
returns-clause-whole c =
    let all = c.skip_blanks.new.rest.now in
    let stops : c.letters.count < length all → is_of_word (get_or all c.letters.count 0) ≡ false = λ low. elim c.letters-test.branch [
      | then-letters-test+else-is_of_word w ↦ grind (arith, common_steps)
      | else-letters-test w ↦ absurd (omega (arith, low, w.letters-test.false))
    ] in
    rw c.split_at.ensures.back (ends_at c.letters.count all stops)

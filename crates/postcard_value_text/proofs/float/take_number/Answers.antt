-- `take_number` takes blanks and all bytes that a number may have, and stops at the first other byte.
use Rattle.std.proofs.Common.{◌≡◌, ◌<◌, false, length, get_or, refl, arith}
use Rattle.std.proofs.lemmas.Grind.{common_steps}
use Rattle.postcard_schema_text.specs.Phrases.{all_take, trim_takes, led}
use Rattle.postcard_value_text.specs.Floats.{is_of_float}
use Rattle.postcard_value_text.proofs.FloatTexts.{ends_at}
use Rattle.postcard_value_text.proofs.float.take_number.Goals.{then-bytes-test+else-is_of_float, else-bytes-test}
use Rattle.postcard_value_text.proofs.float.take_number.Goals as goal

pub returns-clause-bytes : goal.returns-clause-bytes
returns-clause-bytes c = rw c.split_at.ensures.front (all_take is_of_float c.bytes.count c.skip_blanks.new.rest.now c.bytes.invariant.0 c.bytes.invariant.1)

pub returns-clause-taken : goal.returns-clause-taken
returns-clause-taken c =
    let word = c.split_at.result.0.now in
    led (λ w. w ≡ word) c.args.rest.now.now c.skip_blanks.new.rest.now c.split_at.result.1.now (trim_takes _ _ c.skip_blanks.ensures) (word, refl, c.split_at.ensures.by_index.0)

pub returns-clause-first : goal.returns-clause-first
returns-clause-first c = (c.skip_blanks.new.rest.now, c.skip_blanks.ensures, c.split_at.ensures.by_index.0)

pub returns-clause-whole : goal.returns-clause-whole
returns-clause-whole c =
    let all = c.skip_blanks.new.rest.now in
    let stops : c.bytes.count < length all → is_of_float (get_or all c.bytes.count 0) ≡ false = λ low. elim c.bytes-test.branch [
      | then-bytes-test+else-is_of_float w ↦ grind (arith, common_steps)
      | else-bytes-test w ↦ absurd (omega (arith, low, w.bytes-test.false))
    ] in
    rw c.split_at.ensures.back (ends_at c.bytes.count all stops)

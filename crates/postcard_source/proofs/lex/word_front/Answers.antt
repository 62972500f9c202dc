use Rattle.std.proofs.Common.{◌≡◌, ◌<◌, false, length, get_or, arith}
use Rattle.std.proofs.lemmas.Grind.{common_steps}
use Rattle.std.specs.List.{AllPass}
use Rattle.postcard_schema_text.specs.Phrases.{all_take}
use Rattle.postcard_source.specs.Tokens.{is_of_word}
use Rattle.postcard_source.proofs.Runs.{ends_at}
use Rattle.postcard_source.proofs.lex.word_front.Goals.{then-letters-test+else-is_of_word, else-letters-test}
use Rattle.postcard_source.proofs.lex.word_front.Goals as goal

pub returns : goal.returns
returns c =
    let text = c.args.text.now in
    let stops : c.letters.count < length text → is_of_word (get_or text c.letters.count 0) ≡ false = λ low. elim c.letters-test.branch [
      | then-letters-test+else-is_of_word w ↦ grind (arith, common_steps)
      | else-letters-test w ↦ absurd (omega (arith, low, w.letters-test.false))
    ] in
    let pass : AllPass is_of_word c.split_at.result.0.now = rw c.split_at.ensures.front (all_take is_of_word c.letters.count text c.letters.invariant.0 c.letters.invariant.1) in
    (pass, rw c.split_at.ensures.back (ends_at is_of_word c.letters.count text stops), c.split_at.ensures.by_index.0)

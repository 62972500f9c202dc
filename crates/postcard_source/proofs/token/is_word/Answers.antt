use Rattle.std.proofs.Common.{◌≡◌, length, arith}
use Rattle.std.proofs.lemmas.Grind.{common_steps}
use Rattle.postcard_source.proofs.Gaps.{word_alone, alone_word}
use Rattle.postcard_source.proofs.token.is_word.Goals as goal

pub returns : goal.returns
returns c = (
  λ empty.
      let none : length c.word_front.result.1.now ≡ 0 = grind (arith, common_steps) in
      word_alone c.word_front.result.0.now c.args.text.now c.word_front.result.1.now none c.word_front.ensures,
  λ all.
      let none = alone_word c.word_front.result.0.now c.args.text.now c.word_front.result.1.now c.word_front.ensures all in grind (arith, common_steps),
)

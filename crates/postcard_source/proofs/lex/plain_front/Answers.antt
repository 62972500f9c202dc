use Rattle.std.proofs.Common.{◌≡◌, length, inr, arith}
use Rattle.std.proofs.lemmas.Grind.{common_steps}
use Rattle.std.proofs.lemmas.Result.{IfOk-weaker}
use Rattle.postcard_source.proofs.Gaps.{no_word}
use Rattle.postcard_source.proofs.lex.plain_front.Goals as goal

pub returns-clause-read : goal.returns-clause-read
returns-clause-read c =
    let empty : length c.word_front.result.0.now ≡ 0 = grind (arith, common_steps) in
    let none = no_word c.word_front.result.0.now c.args.text.now c.word_front.result.1.now empty c.word_front.ensures in
    IfOk-weaker c.other_front.result _ _ (λ found is. inr (none, is)) c.other_front.ensures.read

-- Lists of words that say the same have equal words at each index.
use Rattle.std.proofs.Common.{◌≡◌, ◌<◌, get_or, length, ap, subst, ◌∙◌, arith}
use Rattle.std.proofs.lemmas.Grind.{common_steps}
use Rattle.postcard_compat.specs.Telling.{words_of}
use Rattle.postcard_compat.proofs.Equality.{same_at}
use Rattle.postcard_compat.proofs.word.same_words.Goals as goal

pub returns-then-not-same_word : goal.returns-then-not-same_word
returns-then-not-same_word c = λ no same.
    let ws = c.deref-word-items.result.now in
    let others = c.args.others.now.items in
    let k = c.loop-index.index in
    let y = c.in-Some.other.now in
    let low : k < length ws = omega arith in
    let below : k < length c.deref.result.now = grind (arith, common_steps) in
    let found = subst (λ ys. (k < length ys) × (y ≡ get_or ys k y)) c.deref.ensures.value (below, c.in-Some.ensures.lookup.1) in
    let all : words_of ws ≡ words_of others = ap words_of c.deref-word-items.ensures.value ∙ same in
    c.same_word.ensures c.if-not-same_word.true (same_at ws others k c.word-item.result y low c.word-item.is found.0 found.1 all)

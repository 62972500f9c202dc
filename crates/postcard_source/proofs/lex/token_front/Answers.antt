use Rattle.std.proofs.Common.{ℕ, List, inl, inr, rules}
use Rattle.std.proofs.lemmas.Result.{IfOk-weaker}
use Rattle.postcard_source.specs.Lexical.{IsTokenAt}
use Rattle.postcard_source.specs.Raw.{IsRaw, IsRawOpening}
use Rattle.postcard_source.proofs.lex.token_front.Goals as goal

pub returns-in-Some-clause-read : goal.returns-in-Some-clause-read
unfolding IsTokenAt
returns-in-Some-clause-read c =
    let raw : IsRaw c.in-Some.found.0.now c.args.text.now c.in-Some.found.1.now = search rules in
    let (hashes, inner, opening, quoted, same) = raw in inl ((hashes, inner, opening), raw)

pub returns-in-None-clause-read : goal.returns-in-None-clause-read
unfolding IsTokenAt
returns-in-None-clause-read c =
    let none : (hashes inner : List ℕ) → IsRawOpening hashes c.args.text.now inner → ⊥ = search rules in
    let plain : ((hashes : List ℕ) × (inner : List ℕ) × IsRawOpening hashes c.args.text.now inner) → ⊥ = λ (hashes, inner, is). none hashes inner is in
    IfOk-weaker c.plain_front.result _ _ (λ found is. inr (plain, is)) c.plain_front.ensures.read

use Rattle.std.proofs.Common.{[], refl, sym, ap, ◌∙◌, arith}
use Rattle.std.proofs.lemmas.Option.{slice_get-get_or, same_Some}
use Rattle.postcard_source.specs.declared.token.Token.{Token}
use Rattle.postcard_source.proofs.Limits.{deeper_more}
use Rattle.postcard_source.proofs.kept.after_bracket.Goals as goal

abbrev no_token : Token
no_token = record { text = record { ref_ptr = (0, 0); now = [] }; depth = 0; left = 0 }

pub loop-last-init : goal.loop-last-init
loop-last-init c = (_, slice_get-get_or c.args.tokens.now c.args.at no_token (omega arith), λ k t low high _. absurd (omega arith))

pub returns-then-tokens-last-clause-ends : goal.returns-then-tokens-last-clause-ends
returns-then-tokens-last-clause-ends c =
    let (opening, is_opening, deeper) = c.loop-last.invariant in
    let here = slice_get-get_or c.args.tokens.now c.args.at no_token (omega arith) in
    let last = slice_get-get_or c.args.tokens.now c.loop-last.last no_token (omega arith) in
    let same = ap (λ (t : Token). t.depth) (same_Some _ _ (sym here ∙ is_opening)) in
    (opening, _, c.loop-last.last, omega arith, refl, is_opening, last, omega arith, deeper)

pub loop-last-preserved : goal.loop-last-preserved
loop-last-preserved c =
    let (opening, is_opening, deeper) = c.loop-last.invariant in
    let here = slice_get-get_or c.args.tokens.now c.args.at no_token (omega arith) in
    let last = slice_get-get_or c.args.tokens.now c.loop-last.last no_token (omega arith) in
    let same = ap (λ (t : Token). t.depth) (same_Some _ _ (sym here ∙ is_opening)) in
    (opening, is_opening, deeper_more c.args.tokens.now c.args.at c.loop-last.last opening.depth _ last (omega arith) deeper)

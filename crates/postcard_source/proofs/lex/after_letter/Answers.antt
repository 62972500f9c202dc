use Rattle.std.proofs.Common.{◌≡◌, ◌∷◌, inl, inr, rules}
use Rattle.postcard_source.proofs.lex.after_letter.Goals as goal

pub returns-then-first-ne92 : goal.returns-then-first-ne92
returns-then-first-ne92 c = (c.in-Some.first.now, inl (search rules, search rules))

pub returns-in-Some-split_first : goal.returns-in-Some-split_first
returns-in-Some-split_first c =
    let whole : c.args.text.now ≡ c.in-Some.first.now ∷ c.in-Some.rest.now = search rules in
    let rest : c.in-Some.rest.now ≡ c.in-Some-split_first.field-0-0.now ∷ c.in-Some-split_first.after.now = search rules in
    (c.in-Some-split_first.field-0-0.now, inr (cc))

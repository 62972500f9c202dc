-- The string is what `after_string` skips, so it is cut off just before the text after it.
use Rattle.std.proofs.Common.{◌≡◌, ℕ, List, [], ◌∷◌, ◌++◌, length, take, length-append, refl, ap, ◌∙◌, arith}
use Rattle.std.proofs.lemmas.List.{append_assoc}
use Rattle.postcard_schema_text.specs.FrontLemmas.{trim_is}
use Rattle.postcard_value_json_read.proofs.Ends.{blanks_off, end_of_end}
use Rattle.postcard_value_json_read.proofs.place.take_string.Goals as goal

take_front : (xs ys : List ℕ) → take (length xs) (xs ++ ys) ≡ xs
take_front [] ys = refl
take_front (x ∷ xs) ys = ap (λ zs. x ∷ zs) (take_front xs ys)

pub returns-clause-taken : goal.returns-clause-taken
returns-clause-taken c = λ quoted after (inside, are, form) whole.
    let text = c.skip_blanks.new.rest.now in
    let e : text ≡ quoted ++ after = trim_is c.args.rest.now.now text c.skip_blanks.ensures ∙ whole in
    let all : text ≡ 34 ∷ (inside ++ 34 ∷ after) = e ∙ ap (λ t. t ++ after) form ∙ ap (λ t. 34 ∷ t) (append_assoc inside (34 ∷ []) after) in
    let left = c.after_string-after.ensures.after inside after are all in
    let many = ap length e ∙ length-append quoted after in
    let rest = ap length left in
    let n : c.saturating_sub.result ≡ length quoted = omega (arith, c.saturating_sub.ensures, many, rest) in
    (c.split_at.ensures.front ∙ ap (λ k. take k text) n ∙ ap (take (length quoted)) e ∙ take_front quoted after, left)

pub returns-clause-end : goal.returns-clause-end
returns-clause-end c =
    let text = c.skip_blanks.new.rest.now in
    end_of_end c.args.rest.now.now text c.after_string-after.result.now (blanks_off c.args.rest.now.now text c.skip_blanks.ensures) c.after_string-after.ensures.end

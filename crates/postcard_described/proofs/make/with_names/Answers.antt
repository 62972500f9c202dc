-- Each turn gives one part its name.
use Rattle.std.proofs.Common.{◌≡◌, ◌+◌, ◌<◌, [], ◌∷◌, ◌++◌, length, map, take, get_or, rules, sym, ap, ◌∙◌, arith}
use Rattle.std.proofs.lemmas.Grind.{common_steps}
use Rattle.std.proofs.lemmas.List.{append_assoc, append-nil, length-append, length-map, take_more}
use Rattle.std.proofs.Math.Seq.{take-length}
use Rattle.postcard_schema.specs.Lemmas.{contents_length}
use Rattle.postcard_described.specs.{contents, text_of}
use Rattle.postcard_described.proofs.make.with_names.Goals as goal

pub loop-part-preserved : goal.loop-part-preserved
loop-part-preserved c =
    let xs = map text_of c.args.names.now in
    let old = c.loop-part.fields.items in
    let rest = c.next.new.self.rest.items in
    let here : c.loop-part.part-iterator.rest.items ≡ c.in-Some.part ∷ rest = search rules in
    let whole : contents c.push_named.new.all.items ++ rest ≡ c.args.parts.items =
    ap (λ ys. ys ++ rest) c.in_ok-push_named.ensures.added ∙ append_assoc (contents old) (c.in-Some.part ∷ []) rest
    ∙ ap (λ ys. contents old ++ ys) (sym here) ∙ c.loop-part.invariant.0 in
    let more : length c.push_named.new.all.items ≡ length old + 1 =
    sym (contents_length c.push_named.new.all.items) ∙ ap length c.in_ok-push_named.ensures.added
    ∙ length-append (contents old) (c.in-Some.part ∷ []) ∙ ap (λ n. n + 1) (contents_length old) in
    let many : length c.args.parts.items ≡ length (contents old) + length (c.in-Some.part ∷ rest) =
    sym (ap length c.loop-part.invariant.0) ∙ ap (λ ys. length (contents old ++ ys)) here ∙ length-append (contents old) (c.in-Some.part ∷ rest) in
    let at : c.len.result ≡ length old = search rules in (
      whole,
      λ same.
          let low : length old < length c.args.names.now = omega (arith, many, same, contents_length old) in
          let low_text : length old < length xs = omega (arith, low, length-map c.args.names.now text_of) in
          c.in_ok-push_named.ensures.named ∙ ap (λ ys. ys ++ c.name_at.result.now ∷ []) (c.loop-part.invariant.1 same)
          ∙ ap (λ name. take (length old) xs ++ name ∷ []) (c.name_at.ensures (omega (arith, low, at)) ∙ ap (λ n. get_or xs n []) at) ∙ sym (take_more xs (length old) [] low_text)
          ∙ ap (λ n. take n xs) (sym more),
    )

pub returns-clause-named : goal.returns-clause-named
returns-clause-named c = λ same.
    let xs = map text_of c.args.names.now in
    let fields = c.loop-part.fields.items in
    let none : c.loop-part.part-iterator.rest.items ≡ [] = grind (arith, common_steps) in
    let whole : contents fields ≡ c.args.parts.items =
    sym (append-nil (contents fields)) ∙ ap (λ ys. contents fields ++ ys) (sym none) ∙ c.loop-part.invariant.0 in
    let many : length fields ≡ length xs =
    sym (contents_length fields) ∙ ap length whole ∙ sym same ∙ sym (length-map c.args.names.now text_of) in
    c.loop-part.invariant.1 same ∙ ap (λ n. take n xs) many ∙ take-length xs

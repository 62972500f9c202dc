-- `read_code` takes one word, the bits, and `)`. If one of these is missing, no bits in parentheses begin the text.
use Rattle.std.proofs.Common.{◌≡◌, [], ◌∷◌, refl, sym, ap, ◌∙◌}
use Rattle.std.specs.Prelude.{Some, None}
use Rattle.std.proofs.lemmas.Bool.Decides.{Decides-eqb}
use Rattle.std.proofs.lemmas.Slice.Eq.{strip_prefix_is}
use Rattle.std.specs.Str.Parse.{digits_value, without_leading_plus}
use Rattle.postcard_schema_text.specs.FrontLemmas.{same_rest, word_utf8}
use Rattle.postcard_value_text.proofs.FloatTexts.{code_taken, unsigned_word, code_found}
use Rattle.postcard_value_text.proofs.Fronts.{one_rest}
use Rattle.postcard_value_text.proofs.float.read_code.Goals as goal

pub returns-in_default-clause-reads_back : goal.returns-in_default-clause-reads_back
returns-in_default-clause-reads_back c = λ n after low h.
    let word = c.take_word.result.now in
    let k = code_found n c.args.rest.now.now word c.take_word.new.rest.now after c.take_word.ensures.taken c.take_word.ensures.first c.take_word.ensures.whole h in
    strip_prefix_is Decides-eqb word (48 ∷ 120 ∷ []) None c.in_default.ensures.cases k.digits k.is

pub returns-in_default-from_utf8-clause-reads_back : goal.returns-in_default-from_utf8-clause-reads_back
returns-in_default-from_utf8-clause-reads_back c = λ n after low h.
    let word = c.take_word.result.now in
    let k = code_found n c.args.rest.now.now word c.take_word.new.rest.now after c.take_word.ensures.taken c.take_word.ensures.first c.take_word.ensures.whole h in
    let is = strip_prefix_is Decides-eqb word (48 ∷ 120 ∷ []) (Some c.in-Some.digits) c.in-Some.ensures.cases in
    let same : k.digits ≡ c.in-Some.digits.now = same_rest (same_rest (sym k.is ∙ is)) in
    c.in_default-from_utf8.ensures.cases.0 (rw same at (word_utf8 k.digits k.all))

pub returns-in_default-from_str_radix-clause-reads_back : goal.returns-in_default-from_str_radix-clause-reads_back
returns-in_default-from_str_radix-clause-reads_back c = λ n after low h.
    let word = c.take_word.result.now in
    let k = code_found n c.args.rest.now.now word c.take_word.new.rest.now after c.take_word.ensures.taken c.take_word.ensures.first c.take_word.ensures.whole h in
    let is = strip_prefix_is Decides-eqb word (48 ∷ 120 ∷ []) (Some c.in-Some.digits) c.in-Some.ensures.cases in
    let same : k.digits ≡ c.in-Ok.text.now = same_rest (same_rest (sym k.is ∙ is)) ∙ sym c.in-Ok.ensures.cases.0 in
    let plain : without_leading_plus c.in-Ok.text.now ≡ k.digits = ap without_leading_plus (sym same) ∙ unsigned_word k.digits k.all in
    c.in_default-from_str_radix.ensures.value (rw plain (k.numeral, rw (← k.says) low))

pub returns-then-take-clause-spelled : goal.returns-then-take-clause-spelled
returns-then-take-clause-spelled c =
    let word = c.take_word.result.now in
    let digits = c.in-Some.digits in
    let is = strip_prefix_is Decides-eqb word (48 ∷ 120 ∷ []) (Some digits) c.in-Some.ensures.cases in
    let num = rw c.in-Ok.ensures.cases.0 at c.in-Ok-from_str_radix.ensures.value in
    code_taken c.in-Ok-from_str_radix.code word digits.now c.args.rest.now.now c.take_word.new.rest.now c.take.new.rest.now
    c.take_word.ensures.taken is num.0.0 num.1 (c.take.ensures.taken c.if-take.true)

pub returns-then-take-clause-reads_back : goal.returns-then-take-clause-reads_back
returns-then-take-clause-reads_back c = λ n after low h.
    let word = c.take_word.result.now in
    let k = code_found n c.args.rest.now.now word c.take_word.new.rest.now after c.take_word.ensures.taken c.take_word.ensures.first c.take_word.ensures.whole h in
    let is = strip_prefix_is Decides-eqb word (48 ∷ 120 ∷ []) (Some c.in-Some.digits) c.in-Some.ensures.cases in
    let same : k.digits ≡ c.in-Ok.text.now = same_rest (same_rest (sym k.is ∙ is)) ∙ sym c.in-Ok.ensures.cases.0 in
    let plain : without_leading_plus c.in-Ok.text.now ≡ k.digits = ap without_leading_plus (sym same) ∙ unsigned_word k.digits k.all in (
      c.in-Ok-from_str_radix.ensures.value.1 ∙ ap (digits_value 16) plain ∙ sym k.says,
      one_rest 41 c.take_word.new.rest.now c.take.new.rest.now after refl (c.take.ensures.taken c.if-take.true) k.close,
    )

pub returns-clause-reads_back : goal.returns-clause-reads_back
returns-clause-reads_back c = λ n after low h.
    let word = c.take_word.result.now in
    let k = code_found n c.args.rest.now.now word c.take_word.new.rest.now after c.take_word.ensures.taken c.take_word.ensures.first c.take_word.ensures.whole h in
    c.take.ensures.none c.if-take.false refl after k.close

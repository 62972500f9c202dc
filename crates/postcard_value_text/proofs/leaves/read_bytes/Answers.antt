-- The next word is `0x` and pairs of digits if and only if the text begins with a byte string.
use Rattle.std.proofs.Common.{◌≡◌, [], ◌∷◌, false, take, eqb, sym, subst, ◌∙◌, true≢false, inl, inr}
use lib.Pointwise.{pointwise}
use Rattle.std.specs.Prelude.{Some}
use Rattle.std.proofs.lemmas.Bool.Decides.{Decides-eqb}
use Rattle.std.proofs.lemmas.Slice.Eq.{strip_prefix_is}
use Rattle.postcard_schema_text.specs.FrontLemmas.{same_rest, word_taken}
use Rattle.postcard_value_text.specs.Quoted.{AreDigitsOf}
use Rattle.postcard_value_text.proofs.Readers.{memory_passed}
use Rattle.postcard_value_text.proofs.Quotes.{bytes_take}
use Rattle.postcard_value_text.proofs.QuotedFronts.{bytes_front, one_bytes}
use Rattle.postcard_value_text.proofs.leaves.read_bytes.Goals as goal

pub returns-in_ok-held-in-Some-clause-spelled : goal.returns-in_ok-held-in-Some-clause-spelled
returns-in_ok-held-in-Some-clause-spelled c =
    let word = c.take_word.result.now in
    let digits = c.in-Some.digits in
    let is = strip_prefix_is Decides-eqb word (48 ∷ 120 ∷ []) (Some digits) c.in-Some.ensures.cases in
    bytes_take c.in_ok-held-in-Some.held.items digits.now word c.args.rest.now.now c.take_word.new.rest.now c.take_word.ensures.taken is c.in_ok-held-in-Some.ensures.held

pub returns-in_ok-held-in-Some-clause-accepted : goal.returns-in_ok-held-in-Some-clause-accepted
returns-in_ok-held-in-Some-clause-accepted c = λ bytes after h ends.
    let word = c.take_word.result.now in
    let digits = c.in-Some.digits in
    let is = strip_prefix_is Decides-eqb word (48 ∷ 120 ∷ []) (Some digits) c.in-Some.ensures.cases in
    let k = bytes_front bytes c.args.rest.now.now word c.take_word.new.rest.now after (word_taken c.take_word.ensures.taken c.take_word.ensures.first c.take_word.ensures.whole) h ends in
    let same : k.digits ≡ digits.now = same_rest (same_rest (sym k.is ∙ is)) in
    (one_bytes c.in_ok-held-in-Some.held.items bytes digits.now c.in_ok-held-in-Some.ensures.held (subst (AreDigitsOf bytes) same k.held), k.same)

pub returns-in_err-held-in-Some-clause-accepted : goal.returns-in_err-held-in-Some-clause-accepted
returns-in_err-held-in-Some-clause-accepted c = λ bytes after h ends.
    let word = c.take_word.result.now in
    let digits = c.in-Some.digits in
    let is = strip_prefix_is Decides-eqb word (48 ∷ 120 ∷ []) (Some digits) c.in-Some.ensures.cases in
    let k = bytes_front bytes c.args.rest.now.now word c.take_word.new.rest.now after (word_taken c.take_word.ensures.taken c.take_word.ensures.first c.take_word.ensures.whole) h ends in
    let same : k.digits ≡ digits.now = same_rest (same_rest (sym k.is ∙ is)) in
    elim c.in_err-held-in-Some.ensures.refused [
      | inl memory ↦ memory_passed _ c.from_residual.result _ c.from_residual.ensures.1 memory
      | inr none ↦ absurd (none.1 bytes (subst (AreDigitsOf bytes) same k.held))
    ]

pub returns-in-None-clause-accepted : goal.returns-in-None-clause-accepted
returns-in-None-clause-accepted c = λ bytes after h ends.
    let word = c.take_word.result.now in
    let k = bytes_front bytes c.args.rest.now.now word c.take_word.new.rest.now after (word_taken c.take_word.ensures.taken c.take_word.ensures.first c.take_word.ensures.whole) h ends in
    absurd (true≢false (subst (λ w. pointwise eqb (take 2 w) (48 ∷ 120 ∷ []) ≡ false) k.is c.in-None.ensures.cases))

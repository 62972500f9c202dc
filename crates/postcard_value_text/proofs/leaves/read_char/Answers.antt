-- A quoted text of one character is that character. Otherwise no character begins the text.
use Rattle.std.proofs.Common.{refl, sym, subst, ◌∙◌, arith}
use Rattle.std.specs.Char.{encode_utf8}
use Rattle.std.proofs.lemmas.Str.{IsUtf8-encode}
use Rattle.postcard_value_text.specs.{IsQuoted, TakesPhrase}
use Rattle.postcard_value_text.proofs.Readers.{memory_passed}
use Rattle.postcard_value_text.proofs.LeafFronts.{one_character}
use Rattle.postcard_value_text.proofs.leaves.read_char.Goals as goal

pub returns-in_err-text-clause-accepted : goal.returns-in_err-text-clause-accepted
returns-in_err-text-clause-accepted c = λ x after scalar h.
    memory_passed _ c.from_residual.result _ c.from_residual.ensures.1 (c.in_err-text.ensures.accepted refl (λ e. omega (arith, e)) (encode_utf8 x) after (IsUtf8-encode x scalar) h)

pub returns-in-Ok-clause-spelled : goal.returns-in-Ok-clause-spelled
returns-in-Ok-clause-spelled c =
    subst (λ bytes. TakesPhrase (IsQuoted 39 bytes) c.args.rest.now.now c.take_quoted.new.rest.now) (sym c.deref.ensures ∙ c.in-Ok.ensures.value) c.in_ok-text.ensures.spelled

pub returns-in-Ok-clause-accepted : goal.returns-in-Ok-clause-accepted
returns-in-Ok-clause-accepted c = λ x after scalar h.
    let got = c.in_ok-text.ensures.accepted refl (λ e. omega (arith, e)) (encode_utf8 x) after (IsUtf8-encode x scalar) h in
    (one_character c.in-Ok.c x (sym (sym c.deref.ensures ∙ c.in-Ok.ensures.value) ∙ got.0), got.1)

pub returns-clause-accepted : goal.returns-clause-accepted
returns-clause-accepted c = λ x after scalar h.
    let got = c.in_ok-text.ensures.accepted refl (λ e. omega (arith, e)) (encode_utf8 x) after (IsUtf8-encode x scalar) h in
    absurd (c.in-Err.ensures.value x scalar (c.deref.ensures ∙ got.0))

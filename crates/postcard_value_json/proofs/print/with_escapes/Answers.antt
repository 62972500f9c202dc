-- Each character is printed as itself or as its escape. A plain text has no control characters, so it is unchanged.
use Rattle.std.proofs.Common.{flat_map, nat_lt, subst, sym, ap, ◌∙◌, map-id}
use Rattle.std.specs.List.{AllPass}
use Rattle.std.proofs.lemmas.Result.{IfOk-weaker}
use Rattle.std.proofs.lemmas.Iterator.{YieldsList-from_chars}
use Rattle.std.proofs.lemmas.Iterator.Consumers.{YieldsList-end}
use Rattle.postcard_value_json.specs.Escaped.{escaped_char}
use Rattle.postcard_value_json.proofs.Escapes.{plain_text}
use Rattle.postcard_value_json.proofs.print.with_escapes.Goals as goal

pub returns : goal.returns
returns c =
    let end = YieldsList-end (YieldsList-from_chars c.args.text.now c.utf8.text cc) c.loop-c.yielded _ c.loop-c.yielded_by _ _ c.in-None.is c.next.ensures.steps in
    c.loop-c.invariant ∙ ap (flat_map escaped_char) (sym (map-id c.loop-c.yielded) ∙ end.0)

pub returns-then-is_plain : goal.returns-then-is_plain
returns-then-is_plain c =
    let text = c.args.text.now in
    let pass : AllPass (λ byte. nat_lt byte 127) text = subst (AllPass (λ byte. nat_lt byte 127)) c.as_bytes.ensures.value (c.is_plain.ensures c.if-is_plain.true) in
    IfOk-weaker c.from_str.result _ _ (λ shown is. is ∙ sym (plain_text text c.utf8.text pass)) c.from_str.ensures.ok

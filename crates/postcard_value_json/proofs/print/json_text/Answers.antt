-- Escaping control characters changes no token of the text. So the text still reads back as the same JSON.
use Rattle.std.proofs.Common.{string_bytes, sym, ap, ◌∙◌}
use Rattle.std.proofs.lemmas.Result.{IfOk-weaker}
use Rattle.json.specs.Print.{print}
use Rattle.serde_json.specs.View.{view}
use Rattle.postcard_value_json.specs.Escaped.{escaped}
use Rattle.postcard_value_json.proofs.EscapedTokens.{same_read, tokens_shown}
use Rattle.postcard_value_json.proofs.print.json_text.Goals as goal

pub returns-clause-compact : goal.returns-clause-compact
returns-clause-compact c =
    let text = c.deref.result.now in
    let e = c.deref.ensures in
    let told = c.in_ok-printed.ensures in
    IfOk-weaker c.with_escapes.result _ _
    (λ shown is. is ∙ ap escaped (rw (← e) at told.compact ∙ sym (ap print (tokens_shown text (string_bytes shown) (view c.args.json.now) c.deref.utf8 (rw (← e) at told.compact) (rw (← e) at told.order) is))))
    c.with_escapes.ensures

pub returns-clause-order : goal.returns-clause-order
returns-clause-order c =
    let text = c.deref.result.now in
    let e = c.deref.ensures in
    let told = c.in_ok-printed.ensures in
    let order = rw (← e) at told.order in
    IfOk-weaker c.with_escapes.result _ _
    (λ shown is. (order.0, tokens_shown text (string_bytes shown) (view c.args.json.now) c.deref.utf8 (rw (← e) at told.compact) order is ∙ order.1, order.2))
    c.with_escapes.ensures

pub returns-clause-reads_back : goal.returns-clause-reads_back
returns-clause-reads_back c =
    let text = c.deref.result.now in
    let e = c.deref.ensures in
    let told = c.in_ok-printed.ensures in
    IfOk-weaker c.with_escapes.result _ _
    (λ shown is few. same_read (string_bytes shown) text (tokens_shown text (string_bytes shown) (view c.args.json.now) c.deref.utf8 (rw (← e) at told.compact) (rw (← e) at told.order) is) ∙ rw (← e) at (told.reads_back few))
    c.with_escapes.ensures

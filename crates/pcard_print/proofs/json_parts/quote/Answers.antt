-- Printing a JSON string gives the quoted text.
use Rattle.std.proofs.Common.{string_bytes}
use Rattle.std.proofs.lemmas.Result.{IfOk-weaker}
use Rattle.serde_json.specs.View.{view}
use Rattle.pcard_print.proofs.LineLemmas.{quoted_text}
use Rattle.pcard_print.proofs.json_parts.quote.Goals as goal

pub returns : goal.returns
returns c =
    IfOk-weaker c.to_string.result _ _ (λ s h. quoted_text (view c.in_ok-json.json) c.args.text.now (string_bytes s) c.in_ok-json.ensures h)
    c.to_string.ensures.text

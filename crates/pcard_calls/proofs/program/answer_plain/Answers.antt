-- By cases: the call is about messages of a type, or it isn't.
use Rattle.std.proofs.Common.{map, string_bytes, sym, ◌∙◌}
use Rattle.pcard_call.specs.Options.{given_of}
use Rattle.pcard_calls.proofs.EndLemmas.{typed_reported, other_reported}
use Rattle.pcard_calls.proofs.program.answer_plain.Goals as goal

pub returns-then-is_typed : goal.returns-then-is_typed
returns-then-is_typed g c =
    typed_reported _ _ _ c.args.call.now.verb (given_of c.args.call.now.options) (map string_bytes c.args.call.now.operands.now) _ _ _ _ _
    (sym c.is_typed.ensures ∙ c.if-is_typed.true) c.answer_typed.ensures

pub returns : goal.returns
returns g c =
    other_reported _ _ _ c.args.call.now.verb (given_of c.args.call.now.options) (map string_bytes c.args.call.now.operands.now) _ _ _ _ _
    (sym c.is_typed.ensures ∙ c.if-is_typed.false) c.answer_other.ensures

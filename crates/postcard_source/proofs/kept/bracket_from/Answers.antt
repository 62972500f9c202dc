use Rattle.postcard_source.proofs.Decided.{unless, if_none}
use Rattle.postcard_source.proofs.Limits.{no_attribute, no_scope}
use Rattle.postcard_source.proofs.kept.bracket_from.Goals as goal

pub returns-in-Some-clause-none : goal.returns-in-Some-clause-none
returns-in-Some-clause-none c =
    if_none c.attribute_bracket.result (no_attribute c.args.tokens.now c.args.at c.in-Some.after c.in-Some.ensures.found.0 c.in-Some.ensures.found.1) c.attribute_bracket.ensures.none

pub returns-in_default-after_word-clause-none : goal.returns-in_default-after_word-clause-none
returns-in_default-after_word-clause-none c =
    no_scope c.args.tokens.now c.args.at c.in-Some-after_word.after c.in_default.ensures.none c.in-Some-after_word.ensures.found.1 (unless c.is_scope.ensures c.if-is_scope.false)

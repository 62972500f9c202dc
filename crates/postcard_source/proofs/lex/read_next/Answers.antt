use Rattle.std.proofs.Common.{rules}
use Rattle.postcard_source.specs.Lexical.{IsGap}
use Rattle.postcard_source.proofs.Shorter.{gap_shorter, token_shorter}
use Rattle.postcard_source.proofs.lex.read_next.Goals as goal

pub returns-in-Some-clause-shorter : goal.returns-in-Some-clause-shorter
returns-in-Some-clause-shorter c = let gap : IsGap c.args.text.now c.in-Some.rest.now = search rules in gap_shorter c.args.text.now c.in-Some.rest.now gap

pub returns-in-Ok-clause-shorter : goal.returns-in-Ok-clause-shorter
returns-in-Ok-clause-shorter c = token_shorter c.in_ok-word.word.now c.args.text.now c.in_ok-word.rest.now c.in_ok-word.ensures.read

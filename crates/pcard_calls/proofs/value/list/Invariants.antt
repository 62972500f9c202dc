use denote.Shadow.{shadow}
use denote.Text.{Utf8}
use Rattle.std.proofs.Common.{length}
use Rattle.pcard_calls.proofs.Parts.{IsReadBefore}
use Rattle.pcard_calls.proofs.value.list.Given as goal

abbrev pub invariant-parts : goal.invariant-parts
invariant-parts g l = IsReadBefore g.T.FromStr.from_str_gives l.word l.numbers.items l.rest × shadow (Utf8 l.rest)

abbrev pub decreases-parts : goal.decreases-parts
decreases-parts g l = length l.rest

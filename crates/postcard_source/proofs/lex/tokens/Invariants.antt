-- The tokens so far are those of what was read.
use Rattle.std.proofs.Common.{[], length}
use Rattle.postcard_source.specs.Steps.{Steps}
use Rattle.postcard_source.specs.Lexical.{ReadStep}
use Rattle.postcard_source.proofs.lex.tokens.Given as goal

abbrev pub invariant-steps : goal.invariant-steps
invariant-steps l = Steps ReadStep (l.file, 0, []) (l.rest, l.depth, l.tokens.items)

abbrev pub decreases-steps : goal.decreases-steps
decreases-steps l = length l.rest

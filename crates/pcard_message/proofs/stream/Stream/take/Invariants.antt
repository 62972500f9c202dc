-- The lines of the bytes taken so far are printed.
use Rattle.std.proofs.Common.{◌≡◌, ◌++◌, ℕ, List, length}
use Rattle.pcard_message.specs.Receiving.{Continues}
use Rattle.pcard_message.proofs.stream.Stream.take.Given as goal

abbrev pub invariant-parts : goal.invariant-parts
invariant-parts g l =
    (eaten : List ℕ) × (l.piece ≡ eaten ++ l.rest)
    × Continues l.format l.fn.self eaten l.self (g.W.Write.contents l.fn.output) (g.W.Write.contents l.output)

abbrev pub decreases-parts : goal.decreases-parts
decreases-parts g l = length l.rest

-- The digits of the bytes before `rest` are written. Each turn makes `rest` shorter.
use Rattle.std.proofs.Common.{◌≡◌, ◌++◌, ℕ, List, length}
use Rattle.std.specs.Io.KnownBytes.{Appends}
use Rattle.hex.specs.Hex.{encode_lower}
use Rattle.pcard_print.proofs.digits.write_hex.Given as goal

abbrev pub invariant-pieces : goal.invariant-pieces
invariant-pieces g l =
    (done : List ℕ) × (l.bytes ≡ done ++ l.rest)
    × Appends (g.W.Write.contents l.initial.output) (g.W.Write.contents l.output) (encode_lower done)

abbrev pub decreases-pieces : goal.decreases-pieces
decreases-pieces g l = length l.rest

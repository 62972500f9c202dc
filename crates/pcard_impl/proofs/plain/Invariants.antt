-- The bytes so far are as many as were read, and each is what `plain_byte` makes of the file's byte.
use Rattle.std.proofs.Common.{◌≡◌, ℕ, ◌<◌, ◌||◌, ltb, leb, length}
use Rattle.std.specs.Prelude.{slice_index}
use Rattle.pcard_impl.specs.Plain.{plain_byte}
use Rattle.pcard_impl.proofs.plain.Given as goal

abbrev pub invariant-loop-at : goal.invariant-loop-at
invariant-loop-at l = (length l.plain.items ≡ l.at)
    × ((i : ℕ) → i < l.at → slice_index l.plain.items i ≡ plain_byte (ltb i l.start || leb l.end i) (slice_index l.bytes i))

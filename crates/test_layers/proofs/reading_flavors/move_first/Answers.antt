-- The byte that is moved leaves the input, and is the first of the buffer.
use Rattle.std.proofs.Common.{◌≡◌, ℕ, ◌<◌, List, [], ◌∷◌, length, take, slice_set, refl, arith}
use Rattle.test_layers.proofs.reading_flavors.move_first.Goals as goal

-- After `byte` is written to the first place of a buffer that isn't empty, the buffer begins with
-- it.
first_written : (buf : List ℕ) (byte : ℕ) → 0 < length buf → take 1 (slice_set buf 0 byte) ≡ byte ∷ []
first_written [] byte some = absurd (omega (arith, some))
first_written (old ∷ rest) byte some = refl

pub returns-clause-moved : goal.returns-clause-moved
returns-clause-moved c =
    let some : 0 < length c.args.buf.now = grind (arith, c.if-is_empty.ensures) in
    rw (first_written c.args.buf.now c.in-Some.first.now some) c.in-Some.ensures.cases.0

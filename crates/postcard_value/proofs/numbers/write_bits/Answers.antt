-- The bytes of the number with the bits above its width removed are those of the bits.
use Rattle.postcard_shape.proofs.Bytes.{bytes_of_bytes}
use Rattle.postcard_value.specs.NumberLemmas.{spell_modulo}
use Rattle.postcard_value.proofs.numbers.write_bits.Goals as goal

pub returns : goal.returns
returns g c =
    rw (bytes_of_bytes _, ← spell_modulo c.args.order c.args.integer c.args.bits) (rw c.low_bits.ensures.low at c.write_low_bits.ensures)

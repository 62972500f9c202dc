-- Each turn writes one more digit.
use Rattle.postcard_wire.proofs.Writing.{one_written_bits}
use Rattle.postcard_wire.proofs.varint.write_u128.Goals as goal

pub loop-rest-preserved : goal.loop-rest-preserved
loop-rest-preserved c = one_written_bits _ _ _ _ c.loop-rest.invariant c.loop-rest-test.true

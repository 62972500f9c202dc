-- Each turn writes one more digit.
use Rattle.std.proofs.Common.{bit_and, bit_or}
use Rattle.postcard_wire.proofs.Writing.{one_written_bits, after_kept}
use Rattle.postcard_wire.proofs.varint.write_u64.Goals as goal

pub loop-rest-preserved : goal.loop-rest-preserved
loop-rest-preserved c = (one_written_bits _ _ _ _ c.loop-rest.invariant.0 c.loop-rest-test.true, after_kept c.loop-rest.out c.args.out.now c.loop-rest.len (bit_or (bit_and c.loop-rest.rest 127) 128) c.loop-rest.invariant.1)

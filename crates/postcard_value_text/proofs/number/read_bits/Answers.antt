-- The next word denotes the number if and only if the text begins with a number of the type.
use Rattle.postcard_value_text.specs.{HasBits, is_signed}
use Rattle.postcard_value_text.proofs.Fronts.{scalar_led, scalar_taken, bits_scalars}
use Rattle.postcard_value_text.proofs.Numbers.{one_bits}
use Rattle.postcard_value_text.proofs.number.read_bits.Goals as goal

pub returns-in-Some-clause-spelled : goal.returns-in-Some-clause-spelled
returns-in-Some-clause-spelled c =
    let i = c.args.integer in
    scalar_led (HasBits (is_signed i) i c.in-Some.bits) c.args.rest.now.now c.take_number.result.now c.take_number.new.rest.now c.take_number.ensures.taken c.in-Some.ensures.found

pub returns-in-Some-clause-accepted : goal.returns-in-Some-clause-accepted
returns-in-Some-clause-accepted c = λ n after h ends.
    let i = c.args.integer in
    let t = c.take_number in
    let k = scalar_taken (HasBits (is_signed i) i n) c.args.rest.now.now after t.result.now t.new.rest.now (bits_scalars (is_signed i) i n) h ends t.ensures.bytes t.ensures.whole t.ensures.first in
    (one_bits (is_signed i) i c.in-Some.bits n t.result.now c.in-Some.ensures.found k.0, k.1)

pub returns-in-None-clause-accepted : goal.returns-in-None-clause-accepted
returns-in-None-clause-accepted c = λ n after h ends.
    let i = c.args.integer in
    let t = c.take_number in
    let k = scalar_taken (HasBits (is_signed i) i n) c.args.rest.now.now after t.result.now t.new.rest.now (bits_scalars (is_signed i) i n) h ends t.ensures.bytes t.ensures.whole t.ensures.first in
    c.in-None.ensures.none n k.0

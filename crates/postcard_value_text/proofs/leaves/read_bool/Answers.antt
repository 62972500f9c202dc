-- The next word is `true` or `false` if and only if the text begins with a `bool`.
use Rattle.postcard_value_text.specs.Spelled.{IsTruth}
use Rattle.postcard_value_text.proofs.Fronts.{scalar_led, scalar_taken, truth_scalars}
use Rattle.postcard_value_text.proofs.LeafFronts.{one_truth}
use Rattle.postcard_value_text.proofs.leaves.read_bool.Goals as goal

pub returns-in-Some-clause-spelled : goal.returns-in-Some-clause-spelled
returns-in-Some-clause-spelled c =
    scalar_led (IsTruth c.in-Some.x) c.args.rest.now.now c.take_number.result.now c.take_number.new.rest.now c.take_number.ensures.taken c.in-Some.ensures.found

pub returns-in-Some-clause-accepted : goal.returns-in-Some-clause-accepted
returns-in-Some-clause-accepted c = λ x after h ends.
    let k = scalar_taken (IsTruth x) c.args.rest.now.now after c.take_number.result.now c.take_number.new.rest.now (truth_scalars x) h ends c.take_number.ensures.bytes c.take_number.ensures.whole c.take_number.ensures.first in
    (one_truth c.in-Some.x x c.take_number.result.now c.in-Some.ensures.found k.0, k.1)

pub returns-in-None-clause-accepted : goal.returns-in-None-clause-accepted
returns-in-None-clause-accepted c = λ x after h ends.
    let k = scalar_taken (IsTruth x) c.args.rest.now.now after c.take_number.result.now c.take_number.new.rest.now (truth_scalars x) h ends c.take_number.ensures.bytes c.take_number.ensures.whole c.take_number.ensures.first in
    c.in-None.ensures.none x k.0

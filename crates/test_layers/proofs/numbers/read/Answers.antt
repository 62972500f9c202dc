-- At the start no byte was read.
use Rattle.test_layers.proofs.numbers.read.Goals as goal

pub loop-i-init : goal.loop-i-init
loop-i-init c = c.new-digits.ensures c.args.bits c.requires

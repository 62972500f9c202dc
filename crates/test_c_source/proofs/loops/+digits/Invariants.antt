-- Each call has a number with one digit less.
use Rattle.test_c_source.proofs.loops.+digits.Given as goal

abbrev pub decreases-digits : goal.decreases-digits
decreases-digits l = l.n

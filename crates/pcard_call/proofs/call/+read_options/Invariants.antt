use Rattle.std.proofs.Common.{length}
use Rattle.pcard_call.proofs.call.+read_options.Given as goal

-- Each call of itself has fewer words.
abbrev pub decreases-read_options : goal.decreases-read_options
decreases-read_options l = length l.words.now

-- Each digit leaves a smaller number.
use Rattle.postcard_key.proofs.text.+add_count.Given as goal

abbrev pub decreases-add_count : goal.decreases-add_count
decreases-add_count l = l.count

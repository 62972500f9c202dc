-- The limit decreases with each link.
use Rattle.example_types.proofs.chain.+read_links.Given as goal

abbrev pub decreases-read_links : goal.decreases-read_links
decreases-read_links g l = l.limit

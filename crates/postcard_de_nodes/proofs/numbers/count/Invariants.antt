use Rattle.std.proofs.Common.{◌-◌}
use Rattle.postcard_de_nodes.proofs.CountLoop.{state}
use Rattle.postcard_de_nodes.proofs.VarintLoop.{Within}
use Rattle.postcard_de_nodes.proofs.numbers.count.Given as goal

abbrev pub invariant-loop-byte : goal.invariant-loop-byte
invariant-loop-byte g l = let f = g.F.Flavor in Within 64 f.left f.able f.may_leave l.fn.flavor
    (state l.value l.place) l.flavor

abbrev pub decreases-loop-byte : goal.decreases-loop-byte
decreases-loop-byte g l = 10 - l.place

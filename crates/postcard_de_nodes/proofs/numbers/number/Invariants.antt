use Rattle.std.proofs.Common.{◌≡◌}
use Rattle.postcard_de_nodes.proofs.VarintLoop.{Within}
use Rattle.postcard_de_nodes.proofs.numbers.number.Given as goal

abbrev pub invariant-loop-place : goal.invariant-loop-place
invariant-loop-place g l = let f = g.F.Flavor in (Within l.bits f.left f.able f.may_leave
    l.initial.flavor l.digits l.flavor) × (l.digits.count ≡ l.place)

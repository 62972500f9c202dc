-- The laws are lemmas of `Ranged` and `Delimited`.
use Rattle.postcard_wire.proofs.Delimited.{zig_same}
use Rattle.postcard_wire.proofs.Ranged.{zig_below, zig_onto}
use Rattle.postcard_wire.proofs.laws.zigzags.Goals as goal

pub returns : goal.returns
returns c = record { within = zig_below; onto = zig_onto; one_to_one = zig_same }

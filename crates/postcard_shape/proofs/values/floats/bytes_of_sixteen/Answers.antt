-- The bytes of the lanes are the encodings.
use Rattle.std.specs.Prelude.{ℕ, List, [], ◌∷◌}
use Rattle.std.specs.Float.{Float, binary32}
use Rattle.std.proofs.Common.{ap, ◌∙◌}
use lib.Lanes.{number_l, digits_l}
use Rattle.postcard_shape.proofs.FloatLanes.{lane_bytes, bits_below}
use Rattle.postcard_shape.proofs.values.floats.bytes_of_sixteen.Goals as goal

pub returns-clause-gives : goal.returns-clause-gives
returns-clause-gives g =
    let xs : List Float = g.args.a ∷ g.args.b ∷ g.args.c ∷ g.args.d ∷ g.args.e ∷ g.args.f ∷ g.args.g ∷ g.args.h ∷ g.args.i ∷ g.args.j ∷ g.args.k ∷ g.args.l ∷ g.args.m ∷ g.args.n ∷ g.args.o ∷ g.args.p ∷ [] in
    ap (λ (ns : List ℕ). digits_l 256 64 (number_l 4294967296 ns)) g.bits_of_sixteen.ensures.bits ∙ lane_bytes binary32 xs (bits_below binary32 xs g.bits_of_sixteen.ensures.fits)

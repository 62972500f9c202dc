-- The bytes of the lanes are the encodings.
use Rattle.std.specs.Prelude.{ℕ, List, [], ◌∷◌}
use Rattle.std.specs.Float.{Float, binary64}
use Rattle.std.proofs.Common.{ap, ◌∙◌}
use lib.Lanes.{number_l, digits_l}
use Rattle.postcard_shape.proofs.FloatLanes.{lane_bytes, bits_below}
use Rattle.postcard_shape.proofs.values.floats.bytes_of_eight.Goals as goal

pub returns-clause-gives : goal.returns-clause-gives
returns-clause-gives g =
    let xs : List Float = g.args.a ∷ g.args.b ∷ g.args.c ∷ g.args.d ∷ g.args.e ∷ g.args.f ∷ g.args.g ∷ g.args.h ∷ [] in
    ap (λ (ns : List ℕ). digits_l 256 64 (number_l 18446744073709551616 ns)) g.bits_of_eight.ensures.bits ∙ lane_bytes binary64 xs (bits_below binary64 xs g.bits_of_eight.ensures.fits)

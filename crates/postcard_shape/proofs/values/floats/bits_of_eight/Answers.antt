-- Lane by lane: a NaN's bits aren't asked for, and are the usual ones.
use Rattle.std.specs.Prelude.{[], ◌∷◌}
use Rattle.std.specs.Float.{binary64}
use Rattle.std.proofs.Common.{refl}
use Rattle.postcard_shape.proofs.FloatLanes.{lanes_asked, lanes_are}
use Rattle.postcard_shape.proofs.values.floats.bits_of_eight.Goals as goal

pub float_to_bits-bits : goal.float_to_bits-bits
float_to_bits-bits g =
    lanes_asked binary64 8 (g.args.a ∷ g.args.b ∷ g.args.c ∷ g.args.d ∷ g.args.e ∷ g.args.f ∷ g.args.g ∷ g.args.h ∷ [])

pub returns-clause-bits : goal.returns-clause-bits
returns-clause-bits g =
    lanes_are binary64 8 (g.args.a ∷ g.args.b ∷ g.args.c ∷ g.args.d ∷ g.args.e ∷ g.args.f ∷ g.args.g ∷ g.args.h ∷ []) refl

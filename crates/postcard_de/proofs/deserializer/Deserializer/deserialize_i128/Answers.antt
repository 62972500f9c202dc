use Rattle.std.proofs.Common.{inr, refl}
use Rattle.std.proofs.lemmas.Int.{to_z-of_z}
use mir.Syntax.{w128}
use Rattle.postcard_de_nodes.specs.NumberLemmas.{int_read}
use Rattle.postcard_de.proofs.deserializer.Deserializer.deserialize_i128.Goals as goal

pub returns : goal.returns
returns g c =
    record {
      reads =
          let z = c.de_zig_zag_i128.result in
          rw (to_z-of_z w128 z (record { sfits = c.de_zig_zag_i128.type_inv }))
          (int_read g.F.Flavor.lawful z (inr (inr (inr refl))) c.de_zig_zag_i128.ensures
          c.in_ok-folded.ensures.reads);
      refused = tt;
    }

use Rattle.std.proofs.Common.{inl, inr, refl}
use Rattle.std.proofs.lemmas.Int.{to_z-of_z}
use mir.Syntax.{w32}
use Rattle.postcard_de_nodes.specs.NumberLemmas.{int_read}
use Rattle.postcard_de.proofs.deserializer.Deserializer.deserialize_i32.Goals as goal

pub returns : goal.returns
returns g c =
    record {
      reads =
          let z = c.de_zig_zag_i32.result in
          rw (to_z-of_z w32 z (record { sfits = c.de_zig_zag_i32.type_inv }))
          (int_read g.F.Flavor.lawful z (inr (inl refl)) c.de_zig_zag_i32.ensures
          c.in_ok-folded.ensures.reads);
      refused = tt;
    }

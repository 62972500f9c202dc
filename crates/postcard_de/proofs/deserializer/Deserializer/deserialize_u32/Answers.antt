use Rattle.postcard_de_nodes.specs.NumberLemmas.{num_read}
use Rattle.postcard_de.proofs.deserializer.Deserializer.deserialize_u32.Goals as goal

pub returns : goal.returns
returns g c =
    record {
      reads = num_read g.F.Flavor.lawful c.in_ok-n.ensures.reads;
      refused = tt;
    }

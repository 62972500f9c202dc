use Rattle.std.proofs.Common.{rules}
use Rattle.postcard_de.proofs.Parts.{struct_read, no_more}
use Rattle.postcard_de.proofs.deserializer.Deserializer.deserialize_unit.Goals as goal

pub returns : goal.returns
returns g c = record {
  reads = let laws = g.F.Flavor.lawful in struct_read laws (λ t h. h) (no_more laws);
  succeeds = search rules;
  unchanged = search rules;
}

-- An array has as many bytes as a number.
use Rattle.std.proofs.Common.{rules}
use Rattle.postcard_de_nodes.specs.ReadLemmas.{is_refusal}
use Rattle.postcard_fixint.proofs.be.BEDeserializeOwned.deserialize_owned.Goals as goal

pub returns-in_err-bytes : goal.returns-in_err-bytes
returns-in_err-bytes g c = record {
  reads = search rules;
  refused =
      rw (is_refusal c.from_residual.result c.in_err-bytes.field-0.0 c.from_residual.ensures.1)
      (rw g.met.T.FixInt.same_size at c.in_err-bytes.ensures.refused);
}

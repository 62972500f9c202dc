-- The value that was read, or why none was.
use Rattle.std.proofs.Common.{rules}
use Rattle.postcard_de_nodes.specs.ReadLemmas.{is_refusal}
use Rattle.postcard_de.proofs.bytes.from_bytes.Goals as goal

pub returns-in_err-value : goal.returns-in_err-value
returns-in_err-value g c =
    let refused = c.in_err-value in
    let passed = is_refusal c.from_residual.result refused.field-0.0 c.from_residual.ensures.1 in
    record {
      gives = search rules;
      accepts = λ t front rest read spelled e. let found = refused.ensures.accepts t front rest read spelled e in rw passed found;
      reads_back = λ x rest fits e. let found = refused.ensures.reads_back x rest fits e in rw passed found;
      out_of_memory_only_if_grows = search rules;
      named_error = search rules;
    }

use Rattle.std.proofs.Common.{rules}
use Rattle.postcard_de_nodes.specs.ReadLemmas.{is_refusal}
use Rattle.postcard_de.proofs.Options.{some_read, some_refused}
use Rattle.postcard_de.proofs.deserializer.Deserializer.deserialize_option.Goals as goal

pub returns-in_ok-value-in-1 : goal.returns-in_ok-value-in-1
returns-in_ok-value-in-1 g c =
    record {
      reads =
          some_read g.F.Flavor.lawful (rw c.in-1.is at c.in_ok-pop.ensures.gives)
          c.in_ok-pop.ensures.leaves c.in_ok-value-in-1.ensures;
      refused = tt;
    }

pub returns-in_err-value-in-1 : goal.returns-in_err-value-in-1
returns-in_err-value-in-1 g c =
    record {
      reads =
          rw (is_refusal c.from_residual-in_err-value-in-1.result c.in_err-value-in-1.field-0.0
          c.from_residual-in_err-value-in-1.ensures.1)
          (some_refused g.F.Flavor.lawful (rw c.in-1.is at c.in_ok-pop.ensures.gives)
          c.in_ok-pop.ensures.leaves c.in_err-value-in-1.ensures);
      refused = search rules;
    }

-- If a prefix of a steady reader's bytes encodes a tree of the type, and the scratch is as long, that prefix can be taken.
use Rattle.std.proofs.Common.{ap, ◌∙◌, length}
use Rattle.postcard_de_nodes.specs.ReadLemmas.{is_refusal}
use Rattle.postcard_de_nodes.specs.ErrorLemmas.{only_grown}
use Rattle.postcard_de_flavors.specs.IOReader.{reader_of, scratch_of}
use Rattle.postcard_wire.specs.Spelling.{canonical}
use Rattle.postcard_shape.proofs.Again.{is_spelled, is_same}
use Rattle.postcard.proofs.Taken.{can_take, consumed, kept, kept_rear}
use Rattle.postcard.proofs.de.from_io.Goals as goal

pub returns-clause-accepts : goal.returns-clause-accepts
returns-clause-accepts g c t front is_read is_spelled steady begins room =
    let reader = ap reader_of c.from_flavor-deserializer.ensures ∙ c.new.ensures.reader in
    let scratch = ap scratch_of c.from_flavor-deserializer.ensures ∙ c.new.ensures.scratch in
    let found = c.in_ok-value.ensures.accepts t front is_read is_spelled (can_take g.R.Read.remaining g.R.Reader.steady _ _ _ front reader scratch steady begins room) in
    (found.0, consumed g.R.Read.remaining g.R.Reader.steady _ _ _ _ front reader c.in_ok-left.ensures.0 found.1.drops)

pub returns-in_err-value-clause-reads_back : goal.returns-in_err-value-clause-reads_back
returns-in_err-value-clause-reads_back g c x f steady begins room =
    let s = g.T.Shaped.shape in
    let reader = ap reader_of c.from_flavor-deserializer.ensures ∙ c.new.ensures.reader in
    let scratch = ap scratch_of c.from_flavor-deserializer.ensures ∙ c.new.ensures.scratch in
    let found = c.in_err-value.ensures.accepts (s.tree x) (canonical (s.tree x)) (s.again x f).0 (is_spelled s x f) (can_take g.R.Read.remaining g.R.Reader.steady _ _ _ (canonical (s.tree x)) reader scratch steady begins room) in
    rw (is_refusal c.from_residual.result c.in_err-value.field-0.0 c.from_residual.ensures.1) (found, only_grown s.other _ c.in_err-value.ensures.named_error found)

pub returns-clause-reads_back : goal.returns-clause-reads_back
returns-clause-reads_back g c x f steady begins room =
    let s = g.T.Shaped.shape in
    let found = returns-clause-accepts g c (s.tree x) (canonical (s.tree x)) (s.again x f).0 (is_spelled s x f) steady begins room in
    (is_same s x c.in_ok-value.value f found.0, found.1)

pub returns-clause-gives : goal.returns-clause-gives
returns-clause-gives g c =
    let remaining = g.R.Read.remaining in
    let steady = g.R.Reader.steady in
    let reader = ap reader_of c.from_flavor-deserializer.ensures ∙ c.new.ensures.reader in
    let scratch = ap scratch_of c.from_flavor-deserializer.ensures ∙ c.new.ensures.scratch in
    let found = c.in_ok-value.ensures.gives in
    let left = c.in_ok-left.ensures in
    record {
      tree = found.thing;
      front = found.front;
      is_read = found.is_read;
      is_spelled = found.is_spelled;
      has = found.has;
      joins = consumed remaining steady _ _ _ _ found.front reader left.0 found.taken.drops;
      keeps = kept remaining steady _ _ _ _ _ _ found.front reader scratch left.0 left.1 found.taken.keeps;
      keeps_rear = kept_rear (length found.front) _ _ _ _ scratch left.1 found.taken.scratch;
    }

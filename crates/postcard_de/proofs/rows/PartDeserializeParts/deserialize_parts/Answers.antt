use Rattle.std.proofs.Common.{inl, inr, refl}
use Rattle.postcard_de_nodes.specs.ReadLemmas.{is_refusal}
use Rattle.postcard_de_nodes.specs.CompoundLemmas.{first_refused, second_refused, both_read}
use Rattle.postcard_de.proofs.Parts.{part_and_rest}
use Rattle.postcard_de.proofs.rows.PartDeserializeParts.deserialize_parts.Goals as goal

pub returns-in_err-first : goal.returns-in_err-first
returns-in_err-first g c =
    let s = g.A.Shaped.shape in
    rw (is_refusal c.from_residual.result c.in_err-first.field-0.0 c.from_residual.ensures.1)
    (first_refused g.F.Flavor.lawful (part_and_rest s.reads s.value g.R.Parts.parts.reads) (λ e. inl)
    c.in_err-first.ensures)

pub returns-in_err-rest : goal.returns-in_err-rest
returns-in_err-rest g c =
    let s = g.A.Shaped.shape in
    rw (is_refusal c.from_residual-in_err-rest.result c.in_err-rest.field-0.0
    c.from_residual-in_err-rest.ensures.1)
    (second_refused g.F.Flavor.lawful (part_and_rest s.reads s.value g.R.Parts.parts.reads) (λ e. inr)
    c.in_ok-first.ensures c.in_err-rest.ensures)

pub returns : goal.returns
returns g c =
    let s = g.A.Shaped.shape in
    both_read g.F.Flavor.lawful (part_and_rest s.reads s.value g.R.Parts.parts.reads)
    (λ t ts i j. (t, ts, refl, i, j)) c.in_ok-first.ensures c.in_ok-rest.ensures

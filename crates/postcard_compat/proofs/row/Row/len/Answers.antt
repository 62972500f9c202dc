-- A list of names has one content for each name.
use Rattle.std.proofs.Common.{length, ap, sym, ◌∙◌}
use Rattle.postcard_schema.specs.Lemmas.{contents_length}
use Rattle.postcard_compat.specs.Parts.{parts_of}
use Rattle.postcard_compat.proofs.row.Row.len.Goals as goal

pub returns-in-Named : goal.returns-in-Named
returns-in-Named c =
    let v = c.in-Named.parts.now in
    c.len-in-Named.ensures ∙ (v.ok.0 ∙ (sym (contents_length v.items) ∙ ap (λ r. length (parts_of r)) (sym c.in-Named.is)))

-- The row that is returned has just the one part.
use Rattle.std.proofs.Common.{◌≡◌, ◌∷◌, [], sym, subst}
use Rattle.postcard_schema.specs.declared.schema.Named.{Named}
use Rattle.postcard_schema.specs.declared.schema.Schema.{Schema}
use Rattle.postcard_schema.specs.Meaning.{type_of}
use Rattle.postcard_compat.specs.Parts.{part_types}
use Rattle.postcard_compat.specs.Serving.{SameRows}
use Rattle.postcard_compat.proofs.Flattening.{alone_type}
use Rattle.postcard_compat.proofs.Splices.{rows_one}
use Rattle.postcard_compat.proofs.flat.single.Goals as goal

pub returns : goal.returns
returns c = λ x h.
    let part : Named Schema = record { name = c.new-name.result; content = c.args.schema } in
    let one : part_types c.push.new.self.items ≡ type_of c.args.schema ∷ [] =
    alone_type c.new-row.result.items c.push.new.self.items part c.in_ok-push.ensures.items c.new-row.ensures.items in
    subst (λ row. SameRows row (x ∷ [])) (sym one) (rows_one (type_of c.args.schema) x h)

-- The schema of a list or an option that `of_type` makes is the one that the grammar names.
use Rattle.std.proofs.Common.{◌≡◌, true, arith}
use Rattle.std.proofs.lemmas.Grind.{common_steps}
use Rattle.postcard_schema.specs.Meaning.{has_bytes, type_of}
use Rattle.postcard_schema_text.proofs.AngledSchemas.{list_made, option_made}
use Rattle.postcard_schema_text.proofs.angled.Holder.of_type.Goals as goal

pub returns-in-List-2-clause-made : goal.returns-in-List-2-clause-made
returns-in-List-2-clause-made c =
    let full : has_bytes (type_of c.args.inner) ≡ true = grind (arith, common_steps) in
    list_made c.args.self c.args.inner c.in_ok-boxed-in-List-2.field-0 c.in-List-2.is full c.in_ok-boxed-in-List-2.ensures.held

pub returns-in-Option-clause-made : goal.returns-in-Option-clause-made
returns-in-Option-clause-made c =
    option_made c.args.self c.args.inner c.in_ok-boxed-in-Option.field-0 c.in-Option.is c.in_ok-boxed-in-Option.ensures.held

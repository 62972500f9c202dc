-- No other bytes encode a message: encodings are prefix-free.
use Rattle.std.proofs.Common.{rules, arith}
use Rattle.std.proofs.lemmas.Grind.{common_steps}
use Rattle.postcard_schema.specs.Meaning.{type_of}
use Rattle.postcard_value.specs.Fronts.{HasNone}
use Rattle.postcard_compat.proofs.Messages.{no_message, refused_message}
use Rattle.postcard_compat.proofs.example.read_whole.Goals as goal

pub returns-else-is_empty : goal.returns-else-is_empty
returns-else-is_empty c =
    no_message (type_of c.args.schema.now) c.args.bytes.now c.in-Ok.value c.in-Ok.after.now c.in-Ok.ensures.gives (λ e. grind (arith, common_steps, e))

pub returns-in-Err : goal.returns-in-Err
returns-in-Err c =
    let none : HasNone (type_of c.args.schema.now) c.args.bytes.now = search rules in
    refused_message (type_of c.args.schema.now) c.args.bytes.now none

-- `follows_name` is right by the first byte after the blanks, or since the text ends.
use Rattle.std.proofs.Common.{◌≡◌, [], arith}
use Rattle.std.proofs.lemmas.Grind.{common_steps}
use Rattle.postcard_schema_text.proofs.Heads.{name_if, name_unless}
use Rattle.postcard_schema_text.proofs.ahead.follows_name.Goals as goal

pub returns-in-Some : goal.returns-in-Some
returns-in-Some c =
    name_if c.args.text.now c.trim_ascii_start.result.now c.in-Some.first.now c.in-Some.field-0-1.now _ c.trim_ascii_start.ensures.value c.in-Some.ensures.cases.0 c.is_after_name.ensures

pub returns-in-None : goal.returns-in-None
returns-in-None c =
    let none : c.trim_ascii_start.result.now ≡ [] = grind (arith, common_steps) in
    name_unless c.args.text.now c.trim_ascii_start.result.now c.trim_ascii_start.ensures.value none

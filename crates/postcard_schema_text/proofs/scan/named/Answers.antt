-- `named` keeps the bytes of the name. It is refused only for a name that isn't UTF-8, which no word is.
use Rattle.std.proofs.Common.{refl, ◌∙◌, inr}
use Rattle.postcard_schema_text.specs.FrontLemmas.{word_utf8}
use Rattle.postcard_schema_text.proofs.scan.named.Goals as goal

pub returns-in-Ok-from_str-clause-held : goal.returns-in-Ok-from_str-clause-held
returns-in-Ok-from_str-clause-held c = (c.in-Ok-from_str.ensures.ok ∙ c.in-Ok.ensures.cases.0, refl)

pub returns-in_default-clause-refused : goal.returns-in_default-clause-refused
returns-in_default-clause-refused c = inr (λ pass. c.in_default.ensures.cases.0 (word_utf8 c.args.name.now pass))

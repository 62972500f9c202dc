use Rattle.std.proofs.Common.{refl}
use Rattle.postcard_schema.specs.Named.{named_text}
use Rattle.postcard_schema.specs.Views.{view}
use Rattle.postcard_schema_text.proofs.PrintedTypes.{printed_expression}
use Rattle.postcard_schema_text.proofs.laws.text_denotes.Goals as goal

pub returns : goal.returns
returns c = record { expression = λ s h. printed_expression s (named_text (view s)) h refl }

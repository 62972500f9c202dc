use Rattle.postcard_schema_text.proofs.PrintedTypes.{printed_expression}
use Rattle.postcard_schema_text.proofs.laws.comes_back.Goals as goal

pub returns : goal.returns
returns c = record { same_type = λ s back text h is read. read s (printed_expression s text h is) }

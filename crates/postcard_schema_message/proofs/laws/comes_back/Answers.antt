-- What was sent and what was read of it have the same views, and so one schema.
use Rattle.std.proofs.Common.{◌∙◌}
use Rattle.postcard_schema.specs.Views.{view}
use Rattle.postcard_schema_message.proofs.Alike.{nodes_same}
use Rattle.postcard_schema_message.proofs.Rows.{one_view}
use Rattle.postcard_schema_message.proofs.laws.comes_back.Goals as goal

pub returns : goal.returns
returns c = record {
  same_schema = λ s back sent read nodes same built.
      one_view (view back) (view s) (built ∙ nodes_same read.items sent.items same ∙ nodes);
}

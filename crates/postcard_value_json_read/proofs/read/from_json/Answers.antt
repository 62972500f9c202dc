-- What `to_json` wrote is read back: its JSON denotes the value (`Back`), and `read` accepts what the JSON denotes.
use Rattle.postcard_schema.specs.Meaning.{type_of}
use Rattle.postcard_value_text.specs.Accepted.{HasDistinctNames}
use Rattle.postcard_value_text.specs.Layout.{layout_of}
use Rattle.serde_json.specs.View.{view}
use Rattle.postcard_value_json_read.proofs.Answered.{answer_accepted}
use Rattle.postcard_value_json_read.proofs.Back.{schema_back}
use Rattle.postcard_value_json_read.proofs.read.from_json.Goals as goal

pub returns-clause-reads_back : goal.returns-clause-reads_back
returns-clause-reads_back c = λ names t r written.
    let s = c.args.schema.now in
    let x = layout_of s in
    let d = view c.args.json.now in
    answer_accepted (HasDistinctNames x) (type_of s) x d c.read.result c.read.ensures names t r ((schema_back s).back t d r written)

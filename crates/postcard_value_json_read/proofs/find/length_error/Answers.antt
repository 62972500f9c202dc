-- The error names a field that the object lacks, if there is one.
use Rattle.serde_json.specs.View.{view}
use Rattle.postcard_value_json_read.proofs.LengthErrors.{missing_error}
use Rattle.postcard_value_json_read.proofs.find.length_error.Goals as goal

pub returns-in-Some-missing : goal.returns-in-Some-missing
returns-in-Some-missing c =
    let told = c.in-Some-missing.ensures.some in
    missing_error c.args.fields.now.items (view c.args.json.now) c.in-Some-missing.name.now c.here-in-Some-missing.result c.within.result c.here-in-Some-missing.ensures c.within.ensures.place told.0 told.1

-- The error for a text that isn't JSON has no path. Any other error is that of `from_json`.
use Rattle.std.proofs.Common.{List, [], ℕ, inl}
use Rattle.postcard_value_json_read.specs.Places.{HasPath, IsTextError}
use Rattle.postcard_value_json_read.specs.declared.error.Expected.TheVariants.{Json}
use Rattle.postcard_value_json_read.specs.declared.text.JsonTextError.{JsonTextError}
use Rattle.postcard_value_json_read.specs.declared.text.JsonTextError.TheVariants.{NotAValue, OutOfMemory}
use Rattle.postcard_value_json_read.proofs.text.read_json.Goals as goal

-- The error for a text that isn't JSON has no path.
no_path : (text : List ℕ) (e : JsonTextError) → HasPath [] Json e → IsTextError text e
no_path text (NotAValue character path what) (none, is) = inl (is, none)
no_path text OutOfMemory h = tt

pub returns-in-Err-clause-part : goal.returns-in-Err-clause-part
returns-in-Err-clause-part c = no_path c.args.text.now c.syntax_error.result c.syntax_error.ensures.path

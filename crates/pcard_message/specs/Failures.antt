-- The text that a failed call prints, its exit status, and which failures stand for those of reading and printing.
use Rattle.std.specs.Prelude.{ℕ, List, [], ◌++◌, codes, string_bytes}
use Rattle.std.specs.Fmt.{decimal}
use Rattle.postcard_wire.specs.Error.{error_text}
use Rattle.postcard_wire.specs.declared.error.Error.TheVariants as errors
use Rattle.postcard_schema_text.specs.Printed.{expression_error_text}
use Rattle.postcard_schema_text.specs.declared.error.Problem.{Problem}
use Rattle.postcard_schema_text.specs.declared.error.Problem.TheVariants as problems
use Rattle.postcard_value_text.specs.Printed.{expected_text}
use Rattle.postcard_value_json_read.specs.Printed.{expected_text as json_expected_text}
use Rattle.pcard_bytes.specs.declared.input.InputError.{InputError}
use Rattle.pcard_bytes.specs.declared.input.InputError.TheVariants as inputs
use Rattle.pcard_print.specs.Lines.{place_text}
use Rattle.pcard_print.specs.declared.error.PrintError.{PrintError}
use Rattle.pcard_print.specs.declared.error.PrintError.TheVariants as prints
use Rattle.pcard_message.specs.declared.failure.Failure.{Failure}
use Rattle.pcard_message.specs.declared.failure.Failure.TheVariants.{Usage, BadType, NoBytes, BadValue, BadText, BadJson, BadHex, BadHexAt, UnknownChecksum, Library, Refused, Output, Limit, ReadFailed}
use Rattle.pcard_message.specs.declared.failure.Failure.TheVariants as failed

-- The hint that is printed after a problem of an expression. Only an unknown type has one.
abbrev pub hint_text : Problem → List ℕ
hint_text problems.UnknownType = codes ", pcard types lists them, and a variant alone has a `|` before it"
hint_text problem = []

-- The text of a failure.
abbrev pub failure_text : Failure → List ℕ
failure_text Usage = codes "usage: pcard enc TYPE VALUE, dec TYPE HEX, frames"
failure_text (BadType error) = expression_error_text error ++ (hint_text error.problem ++ codes ": bad type")
failure_text NoBytes = codes "messages of this type have no bytes: bad type"
failure_text BadValue = codes "bad value"
failure_text (BadText character expected) = codes "at character " ++ (decimal character ++ (codes ": expected " ++ (expected_text expected ++ codes ": bad value")))
failure_text (BadJson character path expected) =
    codes "at character " ++ (decimal character ++ (codes ": " ++ (place_text (string_bytes path) ++ (json_expected_text expected ++ codes ": bad value"))))
failure_text BadHex = codes "bad hex"
failure_text (BadHexAt character) = codes "at character " ++ (decimal character ++ codes ": expected two hex digits: bad hex")
failure_text (UnknownChecksum name) = name.now ++ codes ": unknown checksum, pcard crc lists them"
failure_text (Library e) = error_text e
failure_text Refused = []
failure_text Output = codes "the output could not be written"
failure_text Limit = codes "limit"
failure_text ReadFailed = codes "read failed"
failure_text failed.OutOfMemory = codes "out of memory"

-- The exit status of a failure.
abbrev pub failure_status : Failure → ℕ
failure_status (Library e) = 1
failure_status Refused = 1
failure_status Output = 3
failure_status Limit = 3
failure_status ReadFailed = 3
failure_status failed.OutOfMemory = 3
failure_status failure = 2

-- The failure of a call whose bytes can't be read.
abbrev pub failure_of_input : InputError → Failure
failure_of_input (inputs.BadHex n) = BadHexAt n
failure_of_input inputs.ReadFailed = ReadFailed
failure_of_input inputs.Limit = Limit
failure_of_input inputs.OutOfMemory = Library errors.OutOfMemory

-- The failure of a call whose lines can't be printed.
abbrev pub failure_of_print : PrintError → Failure
failure_of_print prints.Output = Output
failure_of_print prints.OutOfMemory = Library errors.OutOfMemory
failure_of_print prints.NoJson = Library errors.WontImplement

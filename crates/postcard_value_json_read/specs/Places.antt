-- The places of errors: their paths in the JSON, and the characters at which they begin in a text.
use Rattle.std.specs.Prelude.{◌≡◌, ℕ, ◌+◌, ◌-◌, ◌≤◌, ◌⊎◌, List, [], ◌∷◌, length, map, take, Some, string_bytes}
use Rattle.std.specs.List.{All}
use Rattle.postcard_schema.specs.Paths.{PlainStep, at_name, path_text, plain_path, plain_step}
use Rattle.postcard_schema.specs.declared.path.Step.{Step}
use Rattle.postcard_schema.specs.declared.schema.Named.{Named}
use Rattle.postcard_schema.specs.declared.schema.Schema.{Schema}
use Rattle.postcard_schema_text.specs.Names.{IsTakenIn}
use Rattle.postcard_schema_text.specs.Text.{characters}
use Rattle.serde_json.specs.Data.{Data}
use Rattle.serde_json.specs.Find.{get}
use Rattle.postcard_value_json_read.specs.Parts.{IsPartAt}
use Rattle.postcard_value_json_read.specs.declared.error.Expected.{Expected}
use Rattle.postcard_value_json_read.specs.declared.error.Expected.TheVariants as places
use Rattle.postcard_value_json_read.specs.declared.error.JsonError.{JsonError}
use Rattle.postcard_value_json_read.specs.declared.error.JsonError.TheVariants.{NotAValue, OutOfMemory}
use Rattle.postcard_value_json_read.specs.declared.text.JsonTextError.{JsonTextError}
use Rattle.postcard_value_json_read.specs.declared.text.JsonTextError.TheVariants as text_errors

-- The error is at the part with this path, where this is expected.
abbrev pub IsAt : List PlainStep → Expected → JsonError → Type 0
IsAt steps expected (NotAValue path what) = (plain_path path ≡ steps) × (what ≡ expected)
IsAt steps expected OutOfMemory = ⊥

-- The second error is that of the whole, for the first error in a part: the step leads from the whole to the part. Or an allocation failed.
abbrev pub IsWithin : PlainStep → JsonError → JsonError → Type 0
IsWithin step (NotAValue path expected) e = (e ≡ OutOfMemory) ⊎ IsAt (step ∷ plain_path path) expected e
IsWithin step OutOfMemory e = e ≡ OutOfMemory

-- The JSON has a member for each field.
abbrev pub HasFields : List (Named Schema) → Data → Type 0
HasFields ns d = All (λ n. (e : Data) × (get (string_bytes n.name) d ≡ Some e)) ns

-- The path is one step, to the member of a field, and the JSON has no such member.
abbrev pub IsMissing : List (Named Schema) → Data → List PlainStep → Type 0
IsMissing ns d path = (name : List ℕ) × (path ≡ at_name name ∷ []) × IsTakenIn ns name × ((e : Data) → get name d ≡ Some e → ⊥)

-- The error of an object with other members than the fields. A member is missing only if the JSON has none for that field, and one is
-- unknown only if there is one for each field.
abbrev pub IsLengthError : List (Named Schema) → Data → JsonError → Type 0
IsLengthError ns d (NotAValue path places.Present) = IsMissing ns d (plain_path path)
IsLengthError ns d (NotAValue path places.Absent) = HasFields ns d
IsLengthError ns d e = Unit {0}

-- This is expected, if no allocation failed.
abbrev pub IsExpected : Expected → JsonError → Type 0
IsExpected expected (NotAValue path what) = what ≡ expected
IsExpected expected OutOfMemory = Unit {0}

-- The place is the number of a character of the text, counted from 1, or the next number after the last.
abbrev pub IsPlaceIn : List ℕ → JsonTextError → Type 0
IsPlaceIn text (text_errors.NotAValue character path expected) = (1 ≤ character) × (character ≤ characters text + 1)
IsPlaceIn text text_errors.OutOfMemory = Unit {0}

-- The place is that of the character after n others, if no allocation failed.
abbrev pub IsPlaceAfter : ℕ → JsonTextError → Type 0
IsPlaceAfter n (text_errors.NotAValue character path expected) = character ≡ n + 1
IsPlaceAfter n text_errors.OutOfMemory = Unit {0}

-- The path has this text, and this is expected there, if no allocation failed.
abbrev pub HasPath : List ℕ → Expected → JsonTextError → Type 0
HasPath text expected (text_errors.NotAValue character path what) = (string_bytes path ≡ text) × (what ≡ expected)
HasPath text expected text_errors.OutOfMemory = Unit {0}

-- The place is that of the part at this path, if the text has it.
abbrev pub IsPlaceOf : List PlainStep → List ℕ → JsonTextError → Type 0
IsPlaceOf path text e = (rest : List ℕ) → IsPartAt path text rest → IsPlaceAfter (characters (take (length text - length rest) text)) e

-- The text isn't JSON, or the place is that of the part to which the steps lead, and the path has their text.
abbrev pub IsTextError : List ℕ → JsonTextError → Type 0
IsTextError text (text_errors.NotAValue character path expected) =
    ((expected ≡ places.Json) × (string_bytes path ≡ []))
    ⊎ ((steps : List Step) × (string_bytes path ≡ path_text steps)
    × IsPlaceOf (map plain_step steps) text (text_errors.NotAValue character path expected))
IsTextError text text_errors.OutOfMemory = Unit {0}

-- The second error is the first one, as that of the text.
abbrev pub IsErrorIn : List ℕ → JsonError → JsonTextError → Type 0
IsErrorIn text (NotAValue path expected) e = HasPath (path_text path.steps.items) expected e × IsPlaceOf (plain_path path) text e
IsErrorIn text OutOfMemory e = e ≡ text_errors.OutOfMemory

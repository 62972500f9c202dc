-- The format that the options and the type of a call name, and the failures of reading it.
use Rattle.std.specs.Prelude.{◌≡◌, ◌≢◌, ℕ, ◌+◌, ◌≤◌, Bool, true, false, List, Option, None, Some}
use Rattle.postcard_wire.specs.declared.error.Error.TheVariants as errors
use Rattle.postcard_schema.specs.declared.schema.Schema.{Schema}
use Rattle.postcard_schema_text.specs.Grammar.{IsExpression}
use Rattle.postcard_schema_text.specs.Text.{characters}
use Rattle.postcard_schema_text.specs.declared.error.ExpressionError.{ExpressionError}
use Rattle.postcard_schema_text.specs.declared.error.Problem.TheVariants as problems
use Rattle.pcard_bytes.specs.Checksum.{checksum_name}
use Rattle.pcard_bytes.specs.declared.checksum.Checksum.{Checksum}
use Rattle.pcard_call.specs.Options.{Given}
use Rattle.pcard_print.specs.declared.notation.Notation.{Notation}
use Rattle.pcard_print.specs.declared.notation.Notation.TheVariants.{Text, Json}
use Rattle.pcard_message.specs.declared.failure.Failure.{Failure}
use Rattle.pcard_message.specs.declared.failure.Failure.TheVariants.{BadType, Library, UnknownChecksum}
use Rattle.pcard_message.specs.declared.format.Format.{Format}

-- The checksum with the name that is given, or none, if none is given.
abbrev pub IsNamed : Option (List ℕ) → Option Checksum → Type 0
IsNamed None checksum = checksum ≡ None
IsNamed (Some name) checksum = (c : Checksum) × (checksum ≡ Some c) × (name ≡ checksum_name c)

-- JSON if the option is given, and else text.
abbrev pub notation_of : Bool → Notation
notation_of true = Json
notation_of false = Text

-- The format of the options and of a type expression.
pub record IsFormat (given : Given) (kind : List ℕ) (format : Format) : Type 0 where
  pub expression : IsExpression format.schema kind
  pub checksum : IsNamed given.checksum format.checksum
  pub framed : format.framed ≡ given.frame
  pub notation : format.notation ≡ notation_of given.json

-- No checksum has the name.
abbrev pub IsUnnamed : List ℕ → Type 0
IsUnnamed name = (c : Checksum) → name ≢ checksum_name c

-- The failure says that no checksum has the name.
abbrev pub IsNameFailure : List ℕ → Failure → Type 0
IsNameFailure name (UnknownChecksum word) = (word.now ≡ name) × IsUnnamed name
IsNameFailure name failure = ⊥

-- The text is no type expression, and the error isn't memory. Its place is a character, counted from 1, or the one after the last.
pub record IsTypeRefused (expression : List ℕ) (error : ExpressionError) : Type 0 where
  pub not_memory : error.problem ≢ problems.OutOfMemory
  pub no_type : (schema : Schema) → IsExpression schema expression → ⊥
  pub least : 1 ≤ error.character
  pub most : error.character ≤ characters expression + 1

-- When each failure of reading a type expression comes.
abbrev pub TypeFails : List ℕ → Failure → Type 0
TypeFails expression (BadType error) = IsTypeRefused expression error
TypeFails expression (Library e) = e ≡ errors.OutOfMemory
TypeFails expression failure = ⊥

-- When each failure of reading the options and the type of a call comes. The type is read only if the checksum's name is known.
abbrev pub FormatFails : Given → List ℕ → Failure → Type 0
FormatFails given kind (UnknownChecksum word) = (given.checksum ≡ Some word.now) × IsUnnamed word.now
FormatFails given kind failure = ((checksum : Option Checksum) × IsNamed given.checksum checksum) × TypeFails kind failure

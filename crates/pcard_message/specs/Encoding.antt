-- What `enc` prints, and how it fails.
use Rattle.std.specs.Prelude.{◌≡◌, ◌⊎◌, ℕ, ◌<◌, ⊤, Bool, true, false, List, [], ◌∷◌, ◌++◌, length, Option, None, Some}
use Rattle.std.specs.Io.KnownBytes.{Appends}
use Rattle.hex.specs.Hex.{encode_lower}
use Rattle.postcard_wire.specs.Spelling.{canonical}
use Rattle.postcard_wire.specs.declared.error.Error.TheVariants as errors
use Rattle.postcard_cobs.specs.Groups.{IsMade}
use Rattle.postcard_schema.specs.Meaning.{type_of, reads}
use Rattle.postcard_schema.specs.declared.schema.Schema.{Schema}
use Rattle.postcard_value.specs.Tree.{tree}
use Rattle.postcard_value.specs.declared.value.Value.{Value}
use Rattle.postcard_value_text.specs.Layout.{layout_of}
use Rattle.postcard_value_text.specs.Place.{IsPlaceIn}
use Rattle.postcard_value_text.specs.Spelled.{SpellsValue}
use Rattle.postcard_value_text.specs.declared.error.TextError.TheVariants.{NotAValue}
use Rattle.postcard_value_json_read.specs.Places.{IsPlaceIn as IsJsonPlace, IsTextError}
use Rattle.postcard_value_json_read.specs.Reading.{IsJsonText}
use Rattle.postcard_value_json_read.specs.declared.text.JsonTextError.TheVariants.{NotAValue as NoJson}
use Rattle.pcard_bytes.specs.Checksum.{IsChecksum, trailer_of}
use Rattle.pcard_bytes.specs.declared.checksum.Checksum.{Checksum}
use Rattle.pcard_print.specs.declared.notation.Notation.{Notation}
use Rattle.pcard_print.specs.declared.notation.Notation.TheVariants.{Text, Json}
use Rattle.pcard_message.specs.declared.failure.Failure.{Failure}
use Rattle.pcard_message.specs.declared.failure.Failure.TheVariants.{BadText, BadJson, Library, Output}
use Rattle.pcard_message.specs.declared.format.Format.{Format}

-- The text denotes the value: as text or as JSON, by the notation.
abbrev pub SpellsIn : Notation → Schema → Value → List ℕ → Type 0
SpellsIn Text schema v text = SpellsValue schema v text
SpellsIn Json schema v text = IsJsonText (layout_of schema) (tree v) text

-- The text denotes the value, which is one of the format's type.
abbrev pub IsValueOf : Format → List ℕ → Value → Type 0
IsValueOf format text v = SpellsIn format.notation format.schema v text × reads (type_of format.schema) (tree v)

-- The text denotes no value of the format's type.
abbrev pub HasNoValue : Format → List ℕ → Type 0
HasNoValue format text = (v : Value) → IsValueOf format text v → ⊥

-- When each failure of reading a value comes. `BadText` and `BadJson` name the place where a text that denotes no value stops being one.
abbrev pub ValueFails : Format → List ℕ → Failure → Type 0
ValueFails format text (BadText character expected) =
    (format.notation ≡ Text) × HasNoValue format text × IsPlaceIn text (NotAValue character expected)
ValueFails format text (BadJson character path expected) =
    (format.notation ≡ Json) × HasNoValue format text × IsJsonPlace text (NoJson character path expected) × IsTextError text (NoJson character path expected)
ValueFails format text (Library e) = e ≡ errors.OutOfMemory
ValueFails format text failure = ⊥

-- ---- what is printed

-- A message, and the bytes of its checksum after it, if there is one.
abbrev pub IsBody : Option Checksum → List ℕ → List ℕ → Type 0
IsBody None message body = body ≡ message
IsBody (Some c) message body = (crc : ℕ) × IsChecksum c message crc × (body ≡ message ++ trailer_of c crc)

-- If the format is framed, `out` is the frame of the body, its zero included. Otherwise it is the body.
abbrev pub IsWrapped : Bool → List ℕ → List ℕ → Type 0
IsWrapped true body out = IsMade body out
IsWrapped false body out = out ≡ body

-- The bytes are those of the value in the format.
pub record IsPacked (format : Format) (v : Value) (out : List ℕ) : Type 0 where
  pub body : List ℕ
  pub is_body : IsBody format.checksum (canonical (tree v)) body
  pub wrapped : IsWrapped format.framed body out

-- The bytes as they are printed: raw, or as hexadecimal digits and a new line, which is the byte 10.
abbrev pub written : Bool → List ℕ → List ℕ
written true bytes = bytes
written false bytes = encode_lower bytes ++ 10 ∷ []

-- The bytes of the value that the text denotes are printed.
pub record PrintsEncoded (format : Format) (raw : Bool) (text : List ℕ) (old new : Option (List ℕ)) : Type 0 where
  pub value_of : Value
  pub is : IsValueOf format text value_of
  pub out : List ℕ
  pub packed : IsPacked format value_of out
  pub printed : Appends old new (written raw out)

-- The text denotes a value whose encoding has more than 4,096 bytes.
abbrev pub HasLongEncoding : Format → List ℕ → Type 0
HasLongEncoding format text = (v : Value) × IsValueOf format text v × (4096 < length (canonical (tree v)))

-- When each failure of `enc` comes.
abbrev pub EncodeFails : Format → List ℕ → Failure → Type 0
EncodeFails format text (Library e) = (e ≡ errors.OutOfMemory) ⊎ ((e ≡ errors.SerializeBufferFull) × HasLongEncoding format text)
EncodeFails format text Output = ⊤
EncodeFails format text failure = ValueFails format text failure

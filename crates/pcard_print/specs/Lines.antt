-- The lines that are printed for answers, as text and as JSON.
use Rattle.std.specs.Prelude.{◌≡◌, ◌≤◌, ℕ, ◌+◌, ◌-◌, ◌^◌, ⊤, min, nat_eq, Bool, true, false, if◌then◌else◌, List, [], ◌∷◌, ◌++◌, length, codes, Option, None, Some, IfSome}
use Rattle.std.specs.Fmt.{decimal, ◌++?◌}
use Rattle.std.specs.Io.KnownBytes.{Appends}
use Rattle.hex.specs.Hex.{encode_lower}
use Rattle.json.specs.Lex.{tokens}
use Rattle.json.specs.Print.{print, quoted}
use Rattle.serde_json.specs.Data.{Data, depth}
use Rattle.serde_json.specs.Read.{max_depth, read}
use Rattle.serde_json.specs.Written.{IsInOrder, compact_text, has_float}
use Rattle.postcard_wire.specs.declared.error.Error.{Error}
use Rattle.postcard_wire.specs.declared.error.Error.TheVariants.{DeserializeUnexpectedEnd, DeserializeBadVarint, DeserializeBadBool, DeserializeBadChar, DeserializeBadUtf8, DeserializeBadOption, SerdeDeCustom}
use Rattle.postcard_schema.specs.declared.schema.Schema.{Schema}
use Rattle.postcard_value.specs.Tree.{tree}
use Rattle.postcard_value.specs.declared.value.Value.{Value}
use Rattle.postcard_value_text.specs.Layout.{layout_of}
use Rattle.postcard_value_text.specs.Shown.{text}
use Rattle.postcard_value_json.specs.Escaped.{escaped}
use Rattle.postcard_value_json.specs.Written.{json_of}
use Rattle.pcard_print.specs.Answers.{Answer, Why, value, refused}
use Rattle.pcard_print.specs.declared.error.PrintError.{PrintError}
use Rattle.pcard_print.specs.declared.error.PrintError.TheVariants.{Output, OutOfMemory, NoJson}
use Rattle.pcard_print.specs.declared.notation.Notation.{Notation}
use Rattle.pcard_print.specs.declared.notation.Notation.TheVariants.{Text, Json}
use Rattle.pcard_print.specs.declared.refusal.Reason.{Reason}
use Rattle.pcard_print.specs.declared.refusal.Reason.TheVariants.{Unread, BadChecksum, NoCobs, NoZero, Overfull}

-- The text is printed, if it is specified.
abbrev pub Prints : Option (List ℕ) → Option (List ℕ) → Option (List ℕ) → Type 0
Prints said old new = IfSome said (λ printed. Appends old new printed)

-- ---- refusals

-- Why a message can't be read, in a few words.
abbrev pub error_words : Error → List ℕ
error_words DeserializeUnexpectedEnd = codes "unexpected end"
error_words DeserializeBadVarint = codes "bad varint"
error_words DeserializeBadBool = codes "bad bool"
error_words DeserializeBadChar = codes "bad char"
error_words DeserializeBadUtf8 = codes "bad UTF-8"
error_words DeserializeBadOption = codes "bad option"
error_words SerdeDeCustom = codes "unknown variant"
error_words e = codes "refused"

-- The words of a reason.
abbrev pub reason_text : Reason → List ℕ
reason_text (Unread e) = error_words e
reason_text BadChecksum = codes "bad checksum"
reason_text NoCobs = codes "no COBS frame"
reason_text NoZero = codes "no zero ends the frame"
reason_text Overfull = codes "overfull"

-- The offset that is printed: n, or the greatest number of 64 bits if n is greater.
abbrev pub offset : ℕ → ℕ
offset n = min n (2 ^ 64 - 1)

-- The path of a part and `: ` after it, or nothing for the whole value.
abbrev pub place_text : List ℕ → List ℕ
place_text [] = []
place_text (b ∷ path) = (b ∷ path) ++ codes ": "

-- The bytes that a line shows, after `: `.
abbrev pub shown_text : Option (List ℕ) → List ℕ
shown_text None = []
shown_text (Some bytes) = codes ": " ++ encode_lower bytes

-- The line of a refusal at this offset.
abbrev pub refusal_text : ℕ → Why → List ℕ
refusal_text at w =
    (codes "error at byte " ++ (decimal at ++ (codes ": " ++ (place_text w.path ++ reason_text w.reason)))) ++ (shown_text w.shown ++ 10 ∷ [])

-- The member of the path of a part: none for the whole value, whose path is empty.
abbrev pub field_member : List ℕ → List ℕ
field_member [] = []
field_member (b ∷ path) = codes ",\"field\":" ++ quoted (b ∷ path)

-- The name of the member with the bytes that are shown: a frame's own if they are no frame, else its data.
abbrev pub shown_name : Reason → List ℕ
shown_name NoCobs = codes "frame"
shown_name NoZero = codes "frame"
shown_name reason = codes "data"

-- A member of this name with bytes.
abbrev pub hex_member : List ℕ → List ℕ → List ℕ
hex_member name bytes = codes ",\"" ++ (name ++ (codes "\":\"" ++ (encode_lower bytes ++ codes "\"")))

-- The member with the bytes that are refused, if they are shown.
abbrev pub shown_member : Reason → Option (List ℕ) → List ℕ
shown_member reason None = []
shown_member reason (Some bytes) = hex_member (shown_name reason) bytes

-- The same as JSON.
abbrev pub refusal_json : ℕ → Why → List ℕ
refusal_json at w =
    (codes "{\"at\":" ++ (decimal at ++ (codes ",\"error\":\"" ++ (reason_text w.reason ++ (codes "\"" ++ field_member w.path)))))
    ++ (shown_member w.reason w.shown ++ codes "}\n")

-- The line of a refusal of bytes that begin at this offset.
abbrev pub refusal_line : Notation → ℕ → Why → List ℕ
refusal_line Text start w = refusal_text (offset (start + w.offset)) w
refusal_line Json start w = refusal_json (offset (start + w.offset)) w

-- ---- values

-- What follows a value on its line: how many bytes of the data come after it, and which.
abbrev pub noun_of : ℕ → List ℕ
noun_of n = if nat_eq n 1 then codes "byte" else codes "bytes"

-- The words for the bytes of the data after a value. Nothing if there are none.
abbrev pub more_text : List ℕ → List ℕ
more_text [] = []
more_text (b ∷ rest) =
    (codes " and " ++ (decimal (length (b ∷ rest)) ++ (codes " " ++ (noun_of (length (b ∷ rest)) ++ codes " more: "))))
    ++ encode_lower (b ∷ rest)

-- The line of a value and of the bytes after it, or `None` if its text is not specified.
abbrev pub value_text : Schema → Value → List ℕ → Option (List ℕ)
value_text schema v rest = text (layout_of schema) (tree v) ++? Some (more_text rest ++ 10 ∷ [])

-- The text is the JSON (RFC 8259) of this data, without blanks and with control characters as escapes. Its items and members are in order,
-- each once. It is read as the data, if this nests at most 127 deep. No more is specified of the digits of a float.
pub record IsCompactText (d : Data) (text : List ℕ) : Type 0 where
  pub compact : text ≡ escaped (print (tokens text))
  pub in_order : IsInOrder text d
  pub exact : has_float d ≡ false → text ≡ escaped (compact_text d)
  pub reads_back : depth d ≤ max_depth → read text ≡ Some d

-- The text is the JSON of the value.
abbrev pub IsJsonOf : Schema → Value → List ℕ → Type 0
IsJsonOf schema v text = (json : Data) × (Some json ≡ json_of (layout_of schema) (tree v)) × IsCompactText json text

-- A member of this name with bytes: none, if there are none.
abbrev pub bytes_member : List ℕ → List ℕ → List ℕ
bytes_member name [] = []
bytes_member name (b ∷ bytes) = hex_member name (b ∷ bytes)

-- The line of a value as JSON: its offset, its JSON, the bytes of the data after it, and the bytes after the frame.
abbrev pub value_json : ℕ → List ℕ → List ℕ → List ℕ → List ℕ
value_json at text rest after =
    (codes "{\"at\":" ++ (decimal at ++ (codes ",\"value\":" ++ text)))
    ++ (bytes_member (codes "rest") rest ++ (bytes_member (codes "after") after ++ codes "}\n"))

-- The line of the value, which begins at this offset, and of the bytes after it is printed.
pub record PrintsJson (schema : Schema) (at : ℕ) (v : Value) (rest after : List ℕ) (old new : Option (List ℕ)) : Type 0 where
  pub text : List ℕ
  pub is : IsJsonOf schema v text
  pub printed : Appends old new (value_json at text rest after)

-- ---- answers

-- The line of a value is printed, as text or as JSON.
abbrev pub PrintsValue : Notation → Schema → ℕ → Value → List ℕ → Option (List ℕ) → Option (List ℕ) → Type 0
PrintsValue Text schema at v rest old new = Prints (value_text schema v rest) old new
PrintsValue Json schema at v rest old new = PrintsJson schema at v rest [] old new

-- The line of an answer to bytes that begin at this offset is printed.
abbrev pub PrintsAnswer : Notation → Schema → ℕ → Answer → Option (List ℕ) → Option (List ℕ) → Type 0
PrintsAnswer notation schema start (value v rest) old new = PrintsValue notation schema start v rest old new
PrintsAnswer notation schema start (refused w) old new = Appends old new (refusal_line notation start w)

-- The line of a value and of the bytes of its data after it, and a line of the bytes `after`.
abbrev pub two_lines : Schema → Value → List ℕ → List ℕ → Option (List ℕ)
two_lines schema v rest after = value_text schema v rest ++? Some (encode_lower after ++ 10 ∷ [])

-- A value is printed, with the bytes of its data after it, and those after its message or frame. As text these are on a second line, as
-- JSON in a member, which without a frame is `rest`.
abbrev pub PrintsFirst : Notation → Bool → Schema → Value → List ℕ → List ℕ → Option (List ℕ) → Option (List ℕ) → Type 0
PrintsFirst Text framed schema v rest after old new = Prints (two_lines schema v rest after) old new
PrintsFirst Json true schema v rest after old new = PrintsJson schema 0 v rest after old new
PrintsFirst Json false schema v rest after old new = PrintsJson schema 0 v after [] old new

-- ---- failures

-- The failures of printing the line of a refusal. If the output didn't fail, nothing was printed.
abbrev pub RefusalFails : Notation → Option (List ℕ) → Option (List ℕ) → PrintError → Type 0
RefusalFails notation old new Output = ⊤
RefusalFails notation old new OutOfMemory = (notation ≡ Json) × (new ≡ old)
RefusalFails notation old new NoJson = ⊥

-- The failures of printing the line of a value. If the output didn't fail, nothing was printed.
abbrev pub ValueFails : Notation → Option (List ℕ) → Option (List ℕ) → PrintError → Type 0
ValueFails notation old new Output = ⊤
ValueFails notation old new e = (notation ≡ Json) × (new ≡ old)

-- The failures of printing the line of an answer.
abbrev pub AnswerFails : Notation → Answer → Option (List ℕ) → Option (List ℕ) → PrintError → Type 0
AnswerFails notation (value v rest) old new e = ValueFails notation old new e
AnswerFails notation (refused w) old new e = RefusalFails notation old new e

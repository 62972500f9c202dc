-- What is printed for types that have a name, and how that fails.
use Rattle.std.specs.Prelude.{◌≡◌, ◌<◌, ◌⊎◌, ⊤, ℕ, ℤ, Bool as TruthValue, if◌then◌else◌, List, [], ◌∷◌, ◌++◌, length, map, codes, Option, Some, IfSome, Result, Ok, Err, IsErr, MatchResult}
use Rattle.std.specs.Char.{encode_utf8}
use Rattle.std.specs.Int.{w8, w16, w32, w64, w128, Width}
use Rattle.std.specs.Fmt.{decimal, signed_decimal}
use Rattle.std.specs.Str.Parse.{ParsesUnsigned, ParsesSigned, ParsesBool, ParsesChar}
use Rattle.std.specs.Io.KnownBytes.{Appends}
use Rattle.std.proofs.Common.{inl, inr, refl}
use Rattle.hex.specs.Hex.{encode_lower, decode_of}
use Rattle.postcard_wire.specs.Spelling.{canonical}
use Rattle.postcard_wire.specs.declared.error.Error.{Error}
use Rattle.postcard_wire.specs.declared.error.Error.TheVariants.{OutOfMemory, SerializeBufferFull}
use Rattle.postcard_shape.specs.Shape.{Shape, growing, IsWilling, Grows}
use Rattle.postcard_shape.specs.Leaves.{byte, signed_byte, num, int, boolean, character, text}
use Rattle.postcard_shape.specs.Lists.{seq}
use Rattle.postcard_de.specs.Front.{ReadsFront}
use Rattle.postcard_de.specs.Reads.{IsReadError}
use Rattle.postcard_value_text.specs.Shown.{joined}
use Rattle.pcard_message.specs.declared.failure.Failure.{Failure}
use Rattle.pcard_message.specs.declared.failure.Failure.TheVariants.{BadValue, BadHex, Library, Output}
use Rattle.pcard_calls.specs.Value.{parts, SayEach, SomeSaysNone}
use Rattle.pcard_calls.specs.declared.convert.Task.{Task}
use Rattle.pcard_calls.specs.declared.convert.Task.TheVariants as tasks
use Rattle.pcard_calls.specs.declared.names.ValueType.{ValueType}
use Rattle.pcard_calls.specs.declared.names.ValueType.TheVariants.{U8, U16, U32, U64, U128, I8, I16, I32, I64, I128, Bool, Char, Str, ListU8, ListU32}

-- The values of a type: what they are on the wire, in a word, and as text.
pub record Form : Type 1 where
  pub values : Type 0
  pub shape : Shape values
  -- The word says the value.
  pub says : List ℕ → values → Type 0
  -- The word says no value.
  pub says_none : List ℕ → Type 0
  -- The text as which a value is printed, or `None` if nothing is said of it.
  pub text_of : values → Option (List ℕ)

-- The form of values of one word, which `parses` reads.
abbrev pub one_word : {T E : Type 0} → Shape T → (List ℕ → Result T E → Type 0) → (T → Option (List ℕ)) → Form
one_word {T = T} {E = E} shape parses text_of = record {
  values = T;
  shape = shape;
  says = λ word v. parses word (Ok v);
  says_none = λ word. (e : E) × parses word (Err e);
  text_of = text_of;
}

-- The form of lists of such values. In a word and in a text, they have commas between them.
abbrev pub list_of : {T E : Type 0} → Shape T → (List ℕ → Result T E → Type 0) → (T → Option (List ℕ)) → Form
list_of {T = T} shape parses text_of = record {
  values = List T;
  shape = growing (seq shape);
  says = λ word vs. SayEach parses (parts word) vs;
  says_none = λ word. SomeSaysNone parses (parts word);
  text_of = λ vs. joined (codes ",") (map text_of vs);
}

-- The form of texts: a word says itself.
abbrev pub whole_word : Form
whole_word = record {
  values = List ℕ;
  shape = text;
  says = λ word v. v ≡ word;
  says_none = λ word. ⊥;
  text_of = λ v. Some v;
}

-- The decimal numerals of numbers of `w` bits without a sign, as std reads and prints them.
abbrev pub numeral : ℕ → List ℕ → Result ℕ Failure → Type 0
numeral w = ParsesUnsigned w 10

-- The text of an unsigned integer.
abbrev pub numeral_text : ℕ → Option (List ℕ)
numeral_text n = Some (decimal n)

-- The same with a sign.
abbrev pub signed_numeral : Width → List ℕ → Result ℤ Failure → Type 0
signed_numeral w = ParsesSigned w 10

-- The text of a signed integer.
abbrev pub signed_text : ℤ → Option (List ℕ)
signed_text z = Some (signed_decimal z)

-- `true` or `false`.
abbrev pub truth : List ℕ → Result TruthValue Failure → Type 0
truth = ParsesBool

-- The text of a `bool`.
abbrev pub truth_text : TruthValue → Option (List ℕ)
truth_text b = Some (if b then codes "true" else codes "false")

-- One character in UTF-8.
abbrev pub one_character : List ℕ → Result ℕ Failure → Type 0
one_character = ParsesChar

-- The text of a character.
abbrev pub character_text : ℕ → Option (List ℕ)
character_text c = Some (encode_utf8 c)

-- The form of a type that has a name.
abbrev pub form_of : ValueType → Form
form_of U8 = one_word byte (numeral 8) numeral_text
form_of U16 = one_word (num 16 (inl refl)) (numeral 16) numeral_text
form_of U32 = one_word (num 32 (inr (inl refl))) (numeral 32) numeral_text
form_of U64 = one_word (num 64 (inr (inr (inl refl)))) (numeral 64) numeral_text
form_of U128 = one_word (num 128 (inr (inr (inr refl)))) (numeral 128) numeral_text
form_of I8 = one_word signed_byte (signed_numeral w8) signed_text
form_of I16 = one_word (int 16 (inl refl)) (signed_numeral w16) signed_text
form_of I32 = one_word (int 32 (inr (inl refl))) (signed_numeral w32) signed_text
form_of I64 = one_word (int 64 (inr (inr (inl refl)))) (signed_numeral w64) signed_text
form_of I128 = one_word (int 128 (inr (inr (inr refl)))) (signed_numeral w128) signed_text
form_of Bool = one_word boolean truth truth_text
form_of Char = one_word character one_character character_text
form_of Str = whole_word
form_of ListU8 = list_of byte (numeral 8) numeral_text
form_of ListU32 = list_of (num 32 (inr (inl refl))) (numeral 32) numeral_text

-- The encoding of a value that the word says is printed, in hexadecimal on a line.
pub record PrintsEncoding (form : Form) (word : List ℕ) (old new : Option (List ℕ)) : Type 0 where
  pub value : form.values
  pub said : form.says word value
  pub printed : Appends old new (encode_lower (canonical (form.shape.tree value)) ++ 10 ∷ [])

-- The value at the front of the bytes is printed on a line, and the bytes after it in hexadecimal
-- on a second.
pub record PrintsDecoded (form : Form) (bytes : List ℕ) (old new : Option (List ℕ)) : Type 0 where
  pub value : form.values
  pub rest : List ℕ
  pub is : ReadsFront form.shape.reads form.shape.value bytes value rest
  pub printed : IfSome (form.text_of value) (λ shown. Appends old new (shown ++ 10 ∷ encode_lower rest ++ 10 ∷ []))

-- What is printed of a value of the form for a task.
abbrev pub Does : Task → Form → Option (List ℕ) → Option (List ℕ) → Type 0
Does (tasks.Encode word) form old new = PrintsEncoding form word.now old new
Does (tasks.Decode bytes) form old new = PrintsDecoded form bytes.now old new

-- What `dec` with a name prints. HEX is digits alone.
abbrev pub PrintsNamedDecode : Form → List ℕ → Option (List ℕ) → Option (List ℕ) → Type 0
PrintsNamedDecode form hex old new = (bytes : List ℕ) × (decode_of hex ≡ Ok bytes) × PrintsDecoded form bytes old new

-- ---- failures

-- The value's encoding has more than 4,096 bytes, and the library's error `e` says so. No value of a
-- type that has a name refuses itself, so neither premise is one there.
abbrev pub IsTooLong : {T : Type 0} → Shape T → T → Error → Type 0
IsTooLong shape value e =
    IsWilling shape value → (shape.text → ⊥) → (e ≡ SerializeBufferFull) × (4096 < length (canonical (shape.tree value)))

-- The failures of printing the encoding of a value.
abbrev pub PrintingFails : {T : Type 0} → Shape T → T → Failure → Type 0
PrintingFails shape value (Library e) = IsTooLong shape value e
PrintingFails shape value Output = ⊤
PrintingFails shape value failure = ⊥

-- The word says a value that is too long.
abbrev pub SaysLong : Form → List ℕ → Error → Type 0
SaysLong form word e = (value : form.values) × form.says word value × IsTooLong form.shape value e

-- No front of the bytes spells a value.
abbrev pub HasNoValue : Form → List ℕ → Type 0
HasNoValue form bytes = (v : form.values) (rest : List ℕ) → ReadsFront form.shape.reads form.shape.value bytes v rest → ⊥

-- The failures of encoding the value of a word.
abbrev pub EncodingFails : Form → List ℕ → Failure → Type 0
EncodingFails form word BadValue = form.says_none word
EncodingFails form word (Library e) = (e ≡ OutOfMemory) ⊎ SaysLong form word e
EncodingFails form word Output = ⊤
EncodingFails form word failure = ⊥

-- The failures of decoding a value from the front of bytes.
abbrev pub DecodingFails : Form → List ℕ → Failure → Type 0
DecodingFails form bytes (Library e) = ((e ≡ OutOfMemory) × Grows form.shape) ⊎ (IsReadError form.shape.other e × HasNoValue form bytes)
DecodingFails form bytes Output = ⊤
DecodingFails form bytes failure = ⊥

-- The failures of a task.
abbrev pub TaskFails : Task → Form → Failure → Type 0
TaskFails (tasks.Encode word) form failure = EncodingFails form word.now failure
TaskFails (tasks.Decode bytes) form failure = DecodingFails form bytes.now failure

-- What a task prints, or its failure.
abbrev pub Converts : Task → Form → Option (List ℕ) → Option (List ℕ) → Result Unit Failure → Type 0
Converts task form old new result = MatchResult result (λ done. Does task form old new) (λ failure. TaskFails task form failure)

-- The failures of `dec` with a name: HEX is bad if it spells no bytes, and else decoding fails.
abbrev pub NamedDecodeFails : Form → List ℕ → Failure → Type 0
NamedDecodeFails form hex BadHex = IsErr (decode_of hex)
NamedDecodeFails form hex (Library e) =
    (e ≡ OutOfMemory) ⊎ ((bytes : List ℕ) × (decode_of hex ≡ Ok bytes) × DecodingFails form bytes (Library e))
NamedDecodeFails form hex Output = ⊤
NamedDecodeFails form hex failure = ⊥

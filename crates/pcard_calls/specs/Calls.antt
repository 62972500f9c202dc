-- What a call prints, and when each failure comes. The fields of `given` are the options of the call.
use Rattle.std.specs.Prelude.{◌≡◌, ◌⊎◌, ⊤, ℕ, Bool, true, false, List, [], ◌∷◌, Option, Result, Err, MatchBool, MatchResult, unwrap_or}
use Rattle.std.specs.Io.KnownBytes.{Appends}
use Rattle.pcard_bytes.specs.Input.{HexFails, InputFails, IsInput, StandsFor}
use Rattle.pcard_bytes.specs.declared.checksum.TheConstants.{CATALOG}
use Rattle.pcard_bytes.specs.declared.input.InputError.{InputError}
use Rattle.pcard_call.specs.Options.{Given}
use Rattle.pcard_call.specs.declared.verb.Verb.{Verb}
use Rattle.pcard_call.specs.declared.verb.Verb.TheVariants as verbs
use Rattle.pcard_message.specs.Decoding.{DecodeAllFails, DecodeFails}
use Rattle.pcard_message.specs.Encoding.{EncodeFails, PrintsEncoded}
use Rattle.pcard_message.specs.Failures.{failure_of_input}
use Rattle.pcard_message.specs.Format.{FormatFails, IsFormat}
use Rattle.pcard_message.specs.Reading.{PrintsAll, PrintsOne}
use Rattle.pcard_message.specs.Receiving.{LinesFail, StreamFails}
use Rattle.pcard_message.specs.Stream.{PrintsLines, PrintsStream}
use Rattle.pcard_message.specs.declared.failure.Failure.{Failure}
use Rattle.pcard_message.specs.declared.failure.Failure.TheVariants.{Output, Usage}
use Rattle.pcard_message.specs.declared.format.Format.{Format}
use Rattle.pcard_calls.specs.Checksums.{ChecksumFails, PrintsChecksum}
use Rattle.pcard_calls.specs.Explain.{ExplainFails, PrintsExplained}
use Rattle.pcard_calls.specs.Frames.{FramesFail, PrintsAnswers}
use Rattle.pcard_calls.specs.Key.{KeyFails, PrintsKey}
use Rattle.pcard_calls.specs.Named.{EncodingFails, Form, NamedDecodeFails, PrintsEncoding, PrintsNamedDecode, form_of}
use Rattle.pcard_calls.specs.Requests.{IsNoCall, IsRequest, first_word, second_word}
use Rattle.pcard_calls.specs.Size.{PrintsSize, SizeFails}
use Rattle.pcard_calls.specs.declared.names.TypeWord.{TypeWord}
use Rattle.pcard_calls.specs.declared.names.TypeWord.TheVariants.{Named, Expression}

-- ---- the bytes of a call

-- The bytes of a call are all of the input with `--raw`, and else those of HEX.
abbrev pub IsGiven : Bool → List ℕ → Option (List ℕ) → Option (List ℕ) → List ℕ → Type 0
IsGiven true hex known left bytes = IsInput known left bytes
IsGiven false hex known left bytes = StandsFor hex known left bytes

-- When each failure of reading the bytes of a call comes.
abbrev pub GivenFails : ℕ → Type 0 → Bool → List ℕ → Option (List ℕ) → Option (List ℕ) → InputError → Type 0
GivenFails reads steady true hex known left e = InputFails reads steady known left e
GivenFails reads steady false hex known left e = HexFails reads steady hex known left e

-- The failure is that of reading the bytes of a call, or one that `Fails` says of the bytes.
abbrev pub BytesFail : ℕ → Type 0 → Bool → List ℕ → Option (List ℕ) → Option (List ℕ) → (List ℕ → Type 0) → Failure → Type 0
BytesFail reads steady raw hex known left Fails failure =
    ((e : InputError) × GivenFails reads steady raw hex known left e × (failure ≡ failure_of_input e))
    ⊎ ((bytes : List ℕ) × IsGiven raw hex known left bytes × Fails bytes)

-- ---- messages of a format

-- The greatest length of a frame of a stream, its zero included: 65,536 bytes if the option isn't given.
abbrev pub longest_of : Given → ℕ
longest_of given = unwrap_or given.longest 65536

-- What `frames TYPE` prints. With `--hex`, the stream is the bytes of HEX.
abbrev pub PrintsFrames : Format → ℕ → Bool → List ℕ → Option (List ℕ) → Option (List ℕ) → Option (List ℕ) → Option (List ℕ) → Type 0
PrintsFrames format longest true hex known left old new = (bytes : List ℕ) × StandsFor hex known left bytes × PrintsLines format longest bytes old new
PrintsFrames format longest false hex known left old new = PrintsStream format longest known left old new

-- When each failure of `frames TYPE` comes.
abbrev pub FramesFailWith : ℕ → Type 0 → Format → ℕ → Bool → List ℕ → Option (List ℕ) → Option (List ℕ) → Option (List ℕ) → Option (List ℕ) → Failure → Type 0
FramesFailWith reads steady format longest true hex known left old new failure =
    BytesFail reads steady false hex known left (λ bytes. LinesFail format failure) failure
FramesFailWith reads steady format longest false hex known left old new failure = StreamFails steady format longest known left old new failure

-- What a call about messages of this format prints: `enc`, `dec`, `decs`, `explain`, or else `frames`. `text` is VALUE or HEX.
abbrev pub PrintsWith : Format → Verb → Given → List ℕ → Option (List ℕ) → Option (List ℕ) → Option (List ℕ) → Option (List ℕ) → Type 0
PrintsWith format verbs.Encode given text known left old new = PrintsEncoded format given.raw text old new
PrintsWith format verbs.Decode given text known left old new =
    (bytes : List ℕ) × IsGiven given.raw text known left bytes × PrintsOne format bytes old new
PrintsWith format verbs.DecodeAll given text known left old new =
    (bytes : List ℕ) × IsGiven given.raw text known left bytes × PrintsAll format bytes old new
PrintsWith format verbs.Explain given text known left old new =
    (bytes : List ℕ) × IsGiven given.raw text known left bytes × PrintsExplained format given.all bytes old new
PrintsWith format verb given text known left old new = PrintsFrames format (longest_of given) given.hex text known left old new

-- When each failure of a call about messages of this format comes.
abbrev pub FailsWith : ℕ → Type 0 → Format → Verb → Given → List ℕ → Option (List ℕ) → Option (List ℕ) → Option (List ℕ) → Option (List ℕ) → Failure → Type 0
FailsWith reads steady format verbs.Encode given text known left old new failure = EncodeFails format text failure
FailsWith reads steady format verbs.Decode given text known left old new failure =
    BytesFail reads steady given.raw text known left (λ bytes. DecodeFails format bytes old new failure) failure
FailsWith reads steady format verbs.DecodeAll given text known left old new failure =
    BytesFail reads steady given.raw text known left (λ bytes. DecodeAllFails format bytes old new failure) failure
FailsWith reads steady format verbs.Explain given text known left old new failure =
    BytesFail reads steady given.raw text known left (λ bytes. ExplainFails format given.all bytes old new failure) failure
FailsWith reads steady format verb given text known left old new failure =
    FramesFailWith reads steady format (longest_of given) given.hex text known left old new failure

-- ---- calls

-- What `enc` or else `dec` prints for a type that has a name.
abbrev pub PrintsNamed : Verb → Form → List ℕ → Option (List ℕ) → Option (List ℕ) → Type 0
PrintsNamed verbs.Encode form text old new = PrintsEncoding form text old new
PrintsNamed verb form text old new = PrintsNamedDecode form text old new

-- When each failure of `enc` or `dec` comes for a type that has a name.
abbrev pub NamedFails : Verb → Form → List ℕ → Failure → Type 0
NamedFails verbs.Encode form text failure = EncodingFails form text failure
NamedFails verb form text failure = NamedDecodeFails form text failure

-- What `crc` prints: the catalogue, or of NAME and HEX a checksum.
abbrev pub PrintsChecksums : List (List ℕ) → Option (List ℕ) → Option (List ℕ) → Option (List ℕ) → Option (List ℕ) → Type 0
PrintsChecksums [] known left old new = Appends old new CATALOG.now
PrintsChecksums (name ∷ words) known left old new = PrintsChecksum name (first_word words) known left old new

-- When each failure of `crc` comes.
abbrev pub ChecksumsFail : ℕ → Type 0 → List (List ℕ) → Option (List ℕ) → Option (List ℕ) → Failure → Type 0
ChecksumsFail reads steady [] known left failure = failure ≡ Output
ChecksumsFail reads steady (name ∷ words) known left failure = ChecksumFails reads steady name (first_word words) known left failure

-- What a call with TYPE prints.
abbrev pub PrintsTyped : Verb → Given → List (List ℕ) → Option (List ℕ) → Option (List ℕ) → Option (List ℕ) → Option (List ℕ) → Type 0
PrintsTyped verb given operands known left old new =
    (format : Format) × IsFormat given (first_word operands) format × PrintsWith format verb given (second_word operands) known left old new

-- When each failure of a call with TYPE comes.
abbrev pub TypedFails : ℕ → Type 0 → Verb → Given → List (List ℕ) → Option (List ℕ) → Option (List ℕ) → Option (List ℕ) → Option (List ℕ) → Failure → Type 0
TypedFails reads steady verb given operands known left old new failure =
    FormatFails given (first_word operands) failure
    ⊎ ((format : Format) × IsFormat given (first_word operands) format
    × FailsWith reads steady format verb given (second_word operands) known left old new failure)

-- Whether a call is about messages of a type: it isn't `types`, `size`, `key` or `crc`, nor `frames` alone.
abbrev pub is_typed : Verb → List (List ℕ) → Bool
is_typed verbs.Types operands = false
is_typed verbs.Size operands = false
is_typed verbs.Key operands = false
is_typed verbs.Checksum operands = false
is_typed verbs.Frames [] = false
is_typed verb operands = true

-- What any other call prints, where `syntax` is the text that `types` prints: `types`, `size`, `key`, `crc`, or else `frames` alone.
abbrev pub PrintsOther : List ℕ → Verb → Given → List (List ℕ) → Option (List ℕ) → Option (List ℕ) → Option (List ℕ) → Option (List ℕ) → Type 0
PrintsOther syntax verbs.Types given operands known left old new = Appends old new syntax
PrintsOther syntax verbs.Size given operands known left old new = PrintsSize (first_word operands) old new
PrintsOther syntax verbs.Key given operands known left old new = PrintsKey (first_word operands) given.names old new
PrintsOther syntax verbs.Checksum given operands known left old new = PrintsChecksums operands known left old new
PrintsOther syntax verb given operands known left old new = PrintsAnswers known left old new

-- When each failure of any other call comes.
abbrev pub OtherFails : ℕ → Type 0 → Verb → List (List ℕ) → Option (List ℕ) → Option (List ℕ) → Option (List ℕ) → Option (List ℕ) → Failure → Type 0
OtherFails reads steady verbs.Types operands known left old new failure = failure ≡ Output
OtherFails reads steady verbs.Size operands known left old new failure = SizeFails (first_word operands) failure
OtherFails reads steady verbs.Key operands known left old new failure = KeyFails (first_word operands) failure
OtherFails reads steady verbs.Checksum operands known left old new failure = ChecksumsFail reads steady operands known left failure
OtherFails reads steady verb operands known left old new failure = FramesFail steady known left old new failure

-- What a call prints, where the input has the bytes `known` before the call and `left` after it, and the output has `old` and `new`.
abbrev pub Prints : List ℕ → Verb → Given → List (List ℕ) → Option (List ℕ) → Option (List ℕ) → Option (List ℕ) → Option (List ℕ) → Type 0
Prints syntax verb given operands known left old new =
    MatchBool (is_typed verb operands) (PrintsTyped verb given operands known left old new) (PrintsOther syntax verb given operands known left old new)

-- When each failure of a call comes. A read of a steady input doesn't fail.
abbrev pub Fails : ℕ → Type 0 → Verb → Given → List (List ℕ) → Option (List ℕ) → Option (List ℕ) → Option (List ℕ) → Option (List ℕ) → Failure → Type 0
Fails reads steady verb given operands known left old new failure =
    MatchBool (is_typed verb operands) (TypedFails reads steady verb given operands known left old new failure)
    (OtherFails reads steady verb operands known left old new failure)

-- The outcome of a call with TYPE: it printed what `PrintsTyped` says, or failed as `TypedFails` says.
abbrev pub EndsTyped : ℕ → Type 0 → Verb → Given → List (List ℕ) → Option (List ℕ) → Option (List ℕ) → Option (List ℕ) → Option (List ℕ) → Result (Unit {0}) Failure → Type 0
EndsTyped reads steady verb given operands known left old new outcome =
    MatchResult outcome (λ done. PrintsTyped verb given operands known left old new)
    (λ failure. TypedFails reads steady verb given operands known left old new failure)

-- The outcome of any other call: it printed what `PrintsOther` says, or failed as `OtherFails` says.
abbrev pub EndsOther : List ℕ → ℕ → Type 0 → Verb → Given → List (List ℕ) → Option (List ℕ) → Option (List ℕ) → Option (List ℕ) → Option (List ℕ) → Result (Unit {0}) Failure → Type 0
EndsOther syntax reads steady verb given operands known left old new outcome =
    MatchResult outcome (λ done. PrintsOther syntax verb given operands known left old new)
    (λ failure. OtherFails reads steady verb operands known left old new failure)

-- The outcome of any call whose TYPE is no name.
abbrev pub EndsPlain : List ℕ → ℕ → Type 0 → Verb → Given → List (List ℕ) → Option (List ℕ) → Option (List ℕ) → Option (List ℕ) → Option (List ℕ) → Result (Unit {0}) Failure → Type 0
EndsPlain syntax reads steady verb given operands known left old new outcome =
    MatchResult outcome (λ done. Prints syntax verb given operands known left old new)
    (λ failure. Fails reads steady verb given operands known left old new failure)

-- What a call prints where TYPE stands for a name or an expression.
abbrev pub PrintsAs : List ℕ → Verb → Given → List (List ℕ) → TypeWord → Option (List ℕ) → Option (List ℕ) → Option (List ℕ) → Option (List ℕ) → Type 0
PrintsAs syntax verb given operands (Named kind) known left old new = PrintsNamed verb (form_of kind) (second_word operands) old new
PrintsAs syntax verb given operands Expression known left old new = Prints syntax verb given operands known left old new

-- When each failure of such a call comes.
abbrev pub FailsAs : ℕ → Type 0 → Verb → Given → List (List ℕ) → TypeWord → Option (List ℕ) → Option (List ℕ) → Option (List ℕ) → Option (List ℕ) → Failure → Type 0
FailsAs reads steady verb given operands (Named kind) known left old new failure = NamedFails verb (form_of kind) (second_word operands) failure
FailsAs reads steady verb given operands Expression known left old new failure = Fails reads steady verb given operands known left old new failure

-- The outcome of a call: it printed what `PrintsAs` says, or failed as `FailsAs` says.
abbrev pub EndsAs : List ℕ → ℕ → Type 0 → Verb → Given → List (List ℕ) → TypeWord → Option (List ℕ) → Option (List ℕ) → Option (List ℕ) → Option (List ℕ) → Result (Unit {0}) Failure → Type 0
EndsAs syntax reads steady verb given operands kind known left old new outcome =
    MatchResult outcome (λ done. PrintsAs syntax verb given operands kind known left old new)
    (λ failure. FailsAs reads steady verb given operands kind known left old new failure)

-- ---- words

-- The words are a call with this outcome. Or they are no call, the outcome is the failure `Usage`, and nothing is printed.
abbrev pub Ends : List ℕ → ℕ → Type 0 → List (List ℕ) → Option (List ℕ) → Option (List ℕ) → Option (List ℕ) → Option (List ℕ) → Result (Unit {0}) Failure → Type 0
Ends syntax reads steady words known left old new outcome =
    ((verb : Verb) × (given : Given) × (operands : List (List ℕ)) × (kind : TypeWord) × IsRequest words verb given operands kind
    × EndsAs syntax reads steady verb given operands kind known left old new outcome)
    ⊎ (IsNoCall words × (outcome ≡ Err Usage) × (new ≡ old))

-- The words are a call, and what it prints is printed, and nothing after it.
pub record PrintsCall (syntax : List ℕ) (words : List (List ℕ)) (known left old new : Option (List ℕ)) : Type 0 where
  pub verb : Verb
  pub given : Given
  pub operands : List (List ℕ)
  pub kind : TypeWord
  pub request : IsRequest words verb given operands kind
  pub mid : Option (List ℕ)
  pub printed : PrintsAs syntax verb given operands kind known left old mid
  pub no_more : Appends mid new []

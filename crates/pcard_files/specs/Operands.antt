-- Which operands of a call name a type, or a file of bytes.
use Rattle.std.specs.Prelude.{◌≡◌, ℕ, ◌+◌, ◌<◌, List, [], ◌∷◌, Bool, true, false, length}
use Rattle.pcard_call.specs.declared.verb.Verb.{Verb}
use Rattle.pcard_call.specs.declared.verb.Verb.TheVariants as verbs
use Rattle.pcard_call.specs.Options.{Given}
use Rattle.pcard_call.specs.Calls.{Words, IsCall}

-- Whether the first operand of the verb is a TYPE.
abbrev pub takes_type : Verb → Bool
takes_type verbs.Checksum = false
takes_type verbs.Types = false
takes_type verb = true

-- Whether the verb reads bytes: with `--raw`, those of its input.
abbrev pub reads_bytes : Verb → Bool
reads_bytes verbs.Decode = true
reads_bytes verbs.DecodeAll = true
reads_bytes verbs.Explain = true
reads_bytes verbs.Frames = true
reads_bytes verb = false

-- TYPE is the word at index i: the words are a call of a verb that takes one, and its operands, of which there is one or more, begin there.
pub record IsTypeAt (words : Words) (i : ℕ) : Type 0 where
  pub verb : Verb
  pub given : Given
  pub operands : Words
  pub call : IsCall words verb given operands
  pub takes : takes_type verb ≡ true
  pub begin : i + length operands ≡ length words
  pub within : i < length words

-- The words are a call of a verb that reads bytes, with `--raw`, and its second operand is `@` and the name of a file.
pub record NamesInput (words : Words) (file : List ℕ) : Type 0 where
  pub verb : Verb
  pub given : Given
  pub kind : List ℕ
  pub call : IsCall words verb given (kind ∷ (64 ∷ file) ∷ [])
  pub reads : reads_bytes verb ≡ true
  pub raw : given.raw ≡ true

-- The words are no other call than this.
abbrev pub IsOnlyCall : Words → Verb → Given → Words → Type 0
IsOnlyCall words verb given operands = (other : Verb) (more : Given) (others : Words) → IsCall words other more others
    → (verb ≡ other) × (given ≡ more) × (operands ≡ others)

-- The words are no call.
abbrev pub AreNoCall : Words → Type 0
AreNoCall words = (verb : Verb) (given : Given) (operands : Words) → IsCall words verb given operands → ⊥

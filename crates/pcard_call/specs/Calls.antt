-- Which words are a call, and why others are none.
use Rattle.std.specs.Prelude.{◌≡◌, ◌≢◌, ◌⊎◌, ℕ, nat_eq, List, [], ◌∷◌, Bool, true, false, if◌then◌else◌, codes, length}
use Rattle.std.specs.List.{starts_with}
use lib.Pointwise.{pointwise}
use Rattle.pcard_call.specs.declared.verb.Verb.{Verb}
use Rattle.pcard_call.specs.declared.verb.Verb.TheVariants as verbs
use Rattle.pcard_call.specs.declared.options.OptionName.{OptionName}
use Rattle.pcard_call.specs.declared.misuse.Misuse.{Misuse}
use Rattle.pcard_call.specs.declared.misuse.Misuse.TheVariants.{NoVerb, UnknownVerb, UnknownOption, Untaken, Twice, NoValue, BadValue, Operands}
use Rattle.pcard_call.specs.Words.{verb_name}
use Rattle.pcard_call.specs.Options.{Given, WithValue, option_name, has_value, takes, nothing_given, is_given, is_empty, with_switch}

-- The words of a call, each as its bytes.
abbrev pub Words : Type 0
Words = List (List ℕ)

-- The word begins with `--`, so that it can only be an option.
abbrev pub begins_option : List ℕ → Bool
begins_option word = starts_with nat_eq word (codes "--")

-- The word names an option that the verb takes and that isn't given yet.
abbrev pub IsNewOption : Verb → Given → List ℕ → OptionName → Type 0
IsNewOption verb g word option = (word ≡ option_name option) × (takes verb option ≡ true) × (is_given option g ≡ false)

-- The words are options of the verb, none given twice, and then other words, the first of which is no option. The first `Given` has the
-- options before these words, and the second those after them.
pub data OptionsThen (verb : Verb) : Given → Words → Given → Words → Type 0 where
  at_end : (g : Given) → OptionsThen verb g [] g []
  at_operand : (g : Given) (word : List ℕ) (words : Words) → begins_option word ≡ false → OptionsThen verb g (word ∷ words) g (word ∷ words)
  switch : (g h : Given) (option : OptionName) (word : List ℕ) (words rest : Words) → IsNewOption verb g word option → has_value option ≡ false
      → OptionsThen verb (with_switch option g) words h rest → OptionsThen verb g (word ∷ words) h rest
  valued : (g h k : Given) (option : OptionName) (word value : List ℕ) (words rest : Words) → IsNewOption verb g word option → has_value option ≡ true
      → WithValue option value g h → OptionsThen verb h words k rest → OptionsThen verb g (word ∷ value ∷ words) k rest

-- Whether the word says where the bytes of a message are: `-` for standard input, or `@` and the name of a file.
abbrev pub is_input : List ℕ → Bool
is_input word = if pointwise nat_eq word (codes "-") then true else starts_with nat_eq word (codes "@")

-- Whether the words are a type, or a type and where its bytes are.
abbrev pub names_input : Words → Bool
names_input (kind ∷ []) = true
names_input (kind ∷ input ∷ []) = is_input input
names_input words = false

-- Whether the operands are those that the verb takes with these options: a type and a value, or a type and bytes. Bytes are hexadecimal
-- digits or, with `--raw`, those of standard input or of a file.
abbrev pub fits : Verb → Given → Words → Bool
fits verbs.Encode g words = nat_eq (length words) 2
fits verbs.Decode g words = if g.raw then names_input words else nat_eq (length words) 2
fits verbs.DecodeAll g words = if g.raw then names_input words else nat_eq (length words) 2
fits verbs.Explain g words = if g.raw then names_input words else nat_eq (length words) 2
fits verbs.Frames g words = if g.hex then (if g.raw then false else nat_eq (length words) 2) else if g.raw then names_input words else
    if nat_eq (length words) 1 then true else if nat_eq (length words) 0 then is_empty g else false
fits verbs.Size g words = nat_eq (length words) 1
fits verbs.Key g words = nat_eq (length words) 1
fits verbs.Checksum g words = if nat_eq (length words) 0 then true else nat_eq (length words) 2
fits verbs.Types g words = nat_eq (length words) 0

-- The words are this call.
pub record IsCall (words : Words) (verb : Verb) (given : Given) (operands : Words) : Type 0 where
  pub rest : Words
  pub begins : words ≡ verb_name verb ∷ rest
  pub options : OptionsThen verb nothing_given rest given operands
  pub fit : fits verb given operands ≡ true

-- The reason why the word is no new option of the verb: it names none, or one that the verb doesn't take, or one that is given.
abbrev pub IsBadOption : Verb → Given → List ℕ → Misuse → Type 0
IsBadOption verb g word (UnknownOption v w) = (v ≡ verb) × (w.now ≡ word) × ((option : OptionName) → word ≢ option_name option)
IsBadOption verb g word (Untaken v option) = (v ≡ verb) × (word ≡ option_name option) × (takes verb option ≡ false)
IsBadOption verb g word (Twice option) = (word ≡ option_name option) × (takes verb option ≡ true) × (is_given option g ≡ true)
IsBadOption verb g word misuse = ⊥

-- The word is no value of the option.
abbrev pub IsBadValue : OptionName → List ℕ → Misuse → Type 0
IsBadValue option word (BadValue o w) = (o ≡ option) × (w.now ≡ word) × ((g h : Given) → WithValue option word g h → ⊥)
IsBadValue option word misuse = ⊥

-- Words after a verb are no options and operands, for this reason: the first of them that is wrong.
pub data IsMisused (verb : Verb) : Given → Words → Misuse → Type 0 where
  bad_option : (g : Given) (word : List ℕ) (words : Words) (m : Misuse) → begins_option word ≡ true → IsBadOption verb g word m → IsMisused verb g (word ∷ words) m
  no_value : (g : Given) (option : OptionName) (word : List ℕ) → IsNewOption verb g word option → has_value option ≡ true
      → IsMisused verb g (word ∷ []) (NoValue option)
  bad_value : (g : Given) (option : OptionName) (word value : List ℕ) (words : Words) (m : Misuse) → IsNewOption verb g word option → has_value option ≡ true
      → IsBadValue option value m → IsMisused verb g (word ∷ value ∷ words) m
  after_switch : (g : Given) (option : OptionName) (word : List ℕ) (words : Words) (m : Misuse) → IsNewOption verb g word option → has_value option ≡ false
      → IsMisused verb (with_switch option g) words m → IsMisused verb g (word ∷ words) m
  after_value : (g h : Given) (option : OptionName) (word value : List ℕ) (words : Words) (m : Misuse) → IsNewOption verb g word option → has_value option ≡ true
      → WithValue option value g h → IsMisused verb h words m → IsMisused verb g (word ∷ value ∷ words) m

-- The operands after the options of a verb are others than it takes with these options.
pub record HasOtherOperands (words : Words) (verb : Verb) : Type 0 where
  pub rest : Words
  pub given : Given
  pub operands : Words
  pub begins : words ≡ verb_name verb ∷ rest
  pub options : OptionsThen verb nothing_given rest given operands
  pub unfit : fits verb given operands ≡ false

-- The words begin with a verb, and this is wrong with the words after it.
abbrev pub IsWrongAfter : Words → Misuse → Type 0
IsWrongAfter words m = (verb : Verb) × (rest : Words) × (words ≡ verb_name verb ∷ rest) × IsMisused verb nothing_given rest m

-- There is no verb, an unknown one, or other operands than it takes.
abbrev pub IsWrongAround : Words → Misuse → Type 0
IsWrongAround words NoVerb = words ≡ []
IsWrongAround words (UnknownVerb w) = (rest : Words) × (words ≡ w.now ∷ rest) × ((verb : Verb) → w.now ≢ verb_name verb)
IsWrongAround words (Operands verb) = HasOtherOperands words verb
IsWrongAround words m = ⊥

-- The words are no call, for this reason.
abbrev pub IsMisuse : Words → Misuse → Type 0
IsMisuse words m = IsWrongAround words m ⊎ IsWrongAfter words m

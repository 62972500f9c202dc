-- Which arguments are valid, and why others are not.
use Rattle.std.specs.Prelude.{◌≡◌, ◌≢◌, ◌⊎◌, ℕ, nat_eq, List, [], ◌∷◌, ◌++◌, length, Bool, true, false, codes}
use Rattle.std.specs.List.{starts_with}
use Rattle.pcard_compat.specs.declared.request.Switch.{Switch}
use Rattle.pcard_compat.specs.declared.request.Switch.TheVariants.{Both, Framed, Json}
use Rattle.pcard_compat.specs.declared.request.Options.{Options}
use Rattle.pcard_compat.specs.declared.request.Misuse.{Misuse}
use Rattle.pcard_compat.specs.declared.request.Misuse.TheVariants.{UnknownOption, Twice, Operands}

-- The words of a call, each as its bytes.
abbrev pub Words : Type 0
Words = List (List ℕ)

-- The word of an option.
abbrev pub switch_name : Switch → List ℕ
switch_name Both = codes "--both"
switch_name Framed = codes "--framed"
switch_name Json = codes "--json"

-- The options of a call without options.
abbrev pub no_options : Options
no_options = record { both = false; framed = false; json = false }

-- Whether the option is given.
abbrev pub is_given : Switch → Options → Bool
is_given Both o = o.both
is_given Framed o = o.framed
is_given Json o = o.json

-- The options and one more.
abbrev pub with_switch : Switch → Options → Options
with_switch Both o = record o { both = true }
with_switch Framed o = record o { framed = true }
with_switch Json o = record o { json = true }

-- The word begins with `--`, so that it can only be an option.
abbrev pub begins_switch : List ℕ → Bool
begins_switch word = starts_with nat_eq word (codes "--")

-- The word names an option that isn't given yet.
abbrev pub IsNewSwitch : Options → List ℕ → Switch → Type 0
IsNewSwitch given word switch = (word ≡ switch_name switch) × (is_given switch given ≡ false)

-- The arguments are options, each given once, and then arguments whose first is no option. The first set of options is that before these
-- arguments, and the second that after them.
pub data SwitchesThen : Options → Words → Options → Words → Type 0 where
  at_end : (given : Options) → SwitchesThen given [] given []
  at_operand : (given : Options) (word : List ℕ) (words : Words) → begins_switch word ≡ false → SwitchesThen given (word ∷ words) given (word ∷ words)
  after : (given all : Options) (switch : Switch) (word : List ℕ) (words rest : Words) → IsNewSwitch given word switch
      → SwitchesThen (with_switch switch given) words all rest → SwitchesThen given (word ∷ words) all rest

-- The arguments are options, and then the two types.
abbrev pub IsRequest : Words → Options → List ℕ → List ℕ → Type 0
IsRequest words options old new = SwitchesThen no_options words options (old ∷ new ∷ [])

-- The word begins with `--`, and is no new option, for this reason.
abbrev pub IsBadSwitch : Options → List ℕ → Misuse → Type 0
IsBadSwitch given word (UnknownOption w) = (w.now ≡ word) × ((switch : Switch) → word ≢ switch_name switch)
IsBadSwitch given word (Twice switch) = (word ≡ switch_name switch) × (is_given switch given ≡ true)
IsBadSwitch given word Operands = ⊥

-- The reason why the first wrong option is wrong.
pub data IsMisused : Options → Words → Misuse → Type 0 where
  bad_switch : (given : Options) (word : List ℕ) (words : Words) (misuse : Misuse) → begins_switch word ≡ true → IsBadSwitch given word misuse
      → IsMisused given (word ∷ words) misuse
  later : (given : Options) (switch : Switch) (word : List ℕ) (words : Words) (misuse : Misuse) → IsNewSwitch given word switch
      → IsMisused (with_switch switch given) words misuse → IsMisused given (word ∷ words) misuse

-- After the options come fewer than two arguments, or more.
pub record HasOtherOperands (words : Words) : Type 0 where
  pub options : Options
  pub operands : Words
  pub read : SwitchesThen no_options words options operands
  pub count : length operands ≢ 2

-- The arguments are invalid, for this reason.
abbrev pub IsMisuse : Words → Misuse → Type 0
IsMisuse words misuse = IsMisused no_options words misuse ⊎ ((misuse ≡ Operands) × HasOtherOperands words)

-- The line that says why arguments are invalid.
abbrev pub misuse_text : Misuse → List ℕ
misuse_text (UnknownOption word) = codes "unknown option " ++ (word.now ++ codes "; compat takes [--both] [--framed] [--json] OLD NEW")
misuse_text (Twice switch) = switch_name switch ++ codes " stands twice"
misuse_text Operands = codes "compat takes [--both] [--framed] [--json] OLD NEW"

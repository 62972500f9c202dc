-- The options of a call: their words and values, which verb takes which, and those that are given.
use Rattle.std.specs.Prelude.{◌≡◌, ◌≤◌, ℕ, List, Bool, true, false, if◌then◌else◌, codes, Option, Some, None, option_map, is_some}
use Rattle.std.specs.Str.Parse.{IsNumeral, digits_value, without_leading_plus}
use Rattle.pcard_call.specs.declared.verb.Verb.{Verb}
use Rattle.pcard_call.specs.declared.verb.Verb.TheVariants as verbs
use Rattle.pcard_call.specs.declared.options.OptionName.{OptionName}
use Rattle.pcard_call.specs.declared.options.OptionName.TheVariants.{Checksum, Longest, Json, Frame, All, Hex, Raw, Names}
use Rattle.pcard_call.specs.declared.options.Options.{Options}

-- The word that names an option.
abbrev pub option_name : OptionName → List ℕ
option_name Checksum = codes "--crc"
option_name Longest = codes "--longest"
option_name Json = codes "--json"
option_name Frame = codes "--frame"
option_name All = codes "--all"
option_name Hex = codes "--hex"
option_name Raw = codes "--raw"
option_name Names = codes "--names"

-- Whether a value stands after the option.
abbrev pub has_value : OptionName → Bool
has_value Checksum = true
has_value Longest = true
has_value option = false

-- The options of messages: a checksum, JSON, frames, bytes.
abbrev pub is_of_messages : OptionName → Bool
is_of_messages Checksum = true
is_of_messages Json = true
is_of_messages Frame = true
is_of_messages Raw = true
is_of_messages option = false

-- Whether the verb takes the option. The messages of `frames` are in frames anyway.
abbrev pub takes : Verb → OptionName → Bool
takes verbs.Encode option = is_of_messages option
takes verbs.Decode option = is_of_messages option
takes verbs.DecodeAll option = is_of_messages option
takes verbs.Explain All = true
takes verbs.Explain option = is_of_messages option
takes verbs.Frames Frame = false
takes verbs.Frames Longest = true
takes verbs.Frames Hex = true
takes verbs.Frames option = is_of_messages option
takes verbs.Key Names = true
takes verb option = false

-- What the value of an option is.
abbrev pub value_of : OptionName → List ℕ
value_of Checksum = codes "the name of a checksum"
value_of Longest = codes "a number from 1 to 65536"
value_of option = codes "no value"

-- What to write after the verb.
abbrev pub usage_of : Verb → List ℕ
usage_of verbs.Encode = codes "[--crc NAME] [--json] [--frame] [--raw] TYPE VALUE"
usage_of verbs.Decode = codes "[--crc NAME] [--json] [--frame] TYPE HEX, or --raw TYPE [@FILE]"
usage_of verbs.DecodeAll = codes "[--crc NAME] [--json] [--frame] TYPE HEX, or --raw TYPE [@FILE]"
usage_of verbs.Explain = codes "[--all] [--crc NAME] [--json] [--frame] TYPE HEX, or --raw TYPE [@FILE]"
usage_of verbs.Frames = codes "[--crc NAME] [--json] [--longest N] [TYPE], --hex TYPE HEX, or --raw TYPE [@FILE]"
usage_of verbs.Size = codes "TYPE"
usage_of verbs.Key = codes "[--names] TYPE"
usage_of verbs.Checksum = codes "NAME HEX, or no word more"
usage_of verbs.Types = codes "no word more"

-- Which options are given, with their values.
pub record Given : Type 0 where
  pub checksum : Option (List ℕ)
  pub longest : Option ℕ
  pub json : Bool
  pub frame : Bool
  pub all : Bool
  pub hex : Bool
  pub raw : Bool
  pub names : Bool

-- Which options a call has, with their values.
abbrev pub given_of : Options → Given
given_of o = record {
  checksum = option_map (λ name. name.now) o.checksum;
  longest = o.longest;
  json = o.json;
  frame = o.frame;
  all = o.all;
  hex = o.hex;
  raw = o.raw;
  names = o.names;
}

-- No option is given.
abbrev pub nothing_given : Given
nothing_given = record { checksum = None; longest = None; json = false; frame = false; all = false; hex = false; raw = false; names = false }

-- Whether the option is given.
abbrev pub is_given : OptionName → Given → Bool
is_given Checksum g = is_some g.checksum
is_given Longest g = is_some g.longest
is_given Json g = g.json
is_given Frame g = g.frame
is_given All g = g.all
is_given Hex g = g.hex
is_given Raw g = g.raw
is_given Names g = g.names

-- Whether no option is given.
abbrev pub is_empty : Given → Bool
is_empty g = if is_some g.checksum then false else if is_some g.longest then false else if g.json then false else if g.frame then false else
    if g.all then false else if g.hex then false else if g.raw then false else if g.names then false else true

-- The options and one more that has no value.
abbrev pub with_switch : OptionName → Given → Given
with_switch Json g = record g { json = true }
with_switch Frame g = record g { frame = true }
with_switch All g = record g { all = true }
with_switch Hex g = record g { hex = true }
with_switch Raw g = record g { raw = true }
with_switch Names g = record g { names = true }
with_switch option g = g

-- The word is a number from 1 to 65,536, in decimal digits.
abbrev pub SaysLongest : List ℕ → ℕ → Type 0
SaysLongest word n =
    IsNumeral 10 (without_leading_plus word) × (n ≡ digits_value 10 (without_leading_plus word)) × (1 ≤ n) × (n ≤ 65536)

-- The options and one more, which has this value.
abbrev pub WithValue : OptionName → List ℕ → Given → Given → Type 0
WithValue Checksum name g h = h ≡ record g { checksum = Some name }
WithValue Longest number g h = (n : ℕ) × SaysLongest number n × (h ≡ record g { longest = Some n })
WithValue option value g h = ⊥

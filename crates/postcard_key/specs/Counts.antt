-- Types whose arrays have counts of 64 bits, as those of a schema have.
use Rattle.std.specs.Prelude.{◌^◌, ◌<◌}
use Rattle.postcard_schema.specs.Meaning.{MessageType, MessageTypes, leaf, option, seq, array, group, choice, no_types, then_type}

abbrev mutual
  pub CountsFit : MessageType → Type 0
  CountsFit (leaf l) = Unit {0}
  CountsFit (option t) = CountsFit t
  CountsFit (seq t) = CountsFit t
  CountsFit (array n t) = (n < 2 ^ 64) × CountsFit t
  CountsFit (group ts) = AllCountsFit ts
  CountsFit (choice ts) = AllCountsFit ts

  pub AllCountsFit : MessageTypes → Type 0
  AllCountsFit no_types = Unit {0}
  AllCountsFit (then_type t ts) = CountsFit t × AllCountsFit ts

-- Bounds that hold of each type that is read from an expression: elements have bytes, and nesting has a limit.
use Rattle.std.specs.Prelude.{◌≡◌, ℕ, ◌+◌, true, max}
use Rattle.postcard_schema.specs.Meaning.{MessageType, MessageTypes, leaf, option, seq, array, group, choice, no_types, then_type, has_bytes}

-- Everywhere in the type, each element of a list or an array has at least one byte. A map is a list of its entries.
abbrev mutual
  pub ElementsHaveBytes : MessageType → Type 0
  ElementsHaveBytes (leaf l) = Unit {0}
  ElementsHaveBytes (option t) = ElementsHaveBytes t
  ElementsHaveBytes (seq t) = (has_bytes t ≡ true) × ElementsHaveBytes t
  ElementsHaveBytes (array n t) = (has_bytes t ≡ true) × ElementsHaveBytes t
  ElementsHaveBytes (group ts) = AllElementsHaveBytes ts
  ElementsHaveBytes (choice ts) = AllElementsHaveBytes ts

  pub AllElementsHaveBytes : MessageTypes → Type 0
  AllElementsHaveBytes no_types = Unit {0}
  AllElementsHaveBytes (then_type t ts) = ElementsHaveBytes t × AllElementsHaveBytes ts

-- How deep types are nested: an option, a list, an array, a group and an enum are one level each.
abbrev mutual
  pub depth : MessageType → ℕ
  depth (leaf l) = 0
  depth (option t) = depth t + 1
  depth (seq t) = depth t + 1
  depth (array n t) = depth t + 1
  depth (group ts) = greatest_depth ts + 1
  depth (choice ts) = greatest_depth ts + 1

  pub greatest_depth : MessageTypes → ℕ
  greatest_depth no_types = 0
  greatest_depth (then_type t ts) = max (depth t) (greatest_depth ts)

-- The greatest size of the messages of a type, by the arithmetic of `postcard_max`.
use Rattle.std.specs.Prelude.{ℕ, zero, suc, ◌*◌, Option, Some, None, ⊤}
use Rattle.postcard_wire.specs.Number.{max_digits}
use Rattle.postcard_schema.specs.Leaves.{float_size, size_of}
use Rattle.postcard_schema.specs.Meaning.{MessageType, MessageTypes, leaf, option, seq, array, group, choice, no_types, then_type}
use Rattle.postcard_schema.specs.declared.leaf.Integer.{Integer}
use Rattle.postcard_schema.specs.declared.leaf.Integer.TheVariants.{U8, I8}
use Rattle.postcard_schema.specs.declared.leaf.Leaf.{Leaf}
use Rattle.postcard_schema.specs.declared.leaf.Leaf.TheVariants as leaves
use Rattle.postcard_max.specs.Sizes.{times}
use Rattle.postcard_max.specs.SizeLimit.{SizeLimit, exactly, option_limit, then_limit, no_case_limit, case_limit, variants_limit}

-- The limit of a type whose messages are as long as one likes.
abbrev pub endless : SizeLimit
endless = record { greatest = None; reached = ⊤; willing = ⊤ }

-- The greatest or least size of an array of n elements, from that of an element: n times as much. It is 0 if n is 0, even if the element's
-- size is none.
abbrev pub repeated : ℕ → Option ℕ → Option ℕ
repeated zero size = Some 0
repeated (suc n) size = times (suc n) size

-- The greatest size of a number: a byte if it has 8 bits, and else that of a varint of its width.
abbrev pub integer_greatest : Integer → ℕ
integer_greatest U8 = 1
integer_greatest I8 = 1
integer_greatest integer = max_digits (8 * size_of integer)

-- The greatest size of a type without parts, or none.
abbrev pub leaf_greatest : Leaf → Option ℕ
leaf_greatest leaves.Bool = Some 1
leaf_greatest (leaves.Integer integer) = Some (integer_greatest integer)
leaf_greatest (leaves.Float float) = Some (float_size float)
leaf_greatest leaves.Char = Some 5
leaf_greatest leaves.Str = None
leaf_greatest leaves.Bytes = None
leaf_greatest (leaves.Fixed order integer) = Some (size_of integer)

abbrev mutual
  -- The limit of a type's messages. A list has none, nor has an enum without variants.
  pub limit : MessageType → SizeLimit
  limit (leaf l) = record { greatest = leaf_greatest l; reached = ⊤; willing = ⊤ }
  limit (option t) = option_limit (limit t)
  limit (seq t) = endless
  limit (array n t) = record (limit t) { greatest = repeated n (limit t).greatest }
  limit (group ts) = limit_all ts
  limit (choice ts) = limit_of_choice ts

  -- The limit of a message of each type, in order.
  pub limit_all : MessageTypes → SizeLimit
  limit_all no_types = exactly 0
  limit_all (then_type t ts) = then_limit (limit t) (limit_all ts)

  -- The limit of the variants with these contents.
  pub limit_of_choice : MessageTypes → SizeLimit
  limit_of_choice no_types = endless
  limit_of_choice (then_type t ts) = variants_limit (limit t) (limit_from ts)

  -- The limit of variants with these contents, from an index on.
  pub limit_from : MessageTypes → Option ℕ → SizeLimit
  limit_from no_types i = no_case_limit i
  limit_from (then_type t ts) i = case_limit (limit t) (limit_from ts) i

-- What a message says, whatever its bytes: its parts without parts, in order. Groups say nothing of their own, so a struct in a struct
-- says what its fields say, and names say nothing.
use Rattle.std.specs.Prelude.{ℕ, zero, suc, ℤ, pos, Bool, true, false, List, [], ◌∷◌, ◌++◌}
use Rattle.postcard_wire.specs.Tree.{Tree, Trees, Byte, Boolean, Num, Int, Text, Absent, Present, Group, Seq, Variant, NoTrees, Then, count}
use Rattle.postcard_wire.specs.Tree as nodes
use Rattle.postcard_shape.specs.Base256.{low_value}
use Rattle.postcard_schema.specs.declared.leaf.Integer.{Integer}
use Rattle.postcard_schema.specs.declared.leaf.Integer.TheVariants.{U8}
use Rattle.postcard_schema.specs.declared.leaf.Leaf.{Leaf}
use Rattle.postcard_schema.specs.declared.leaf.Leaf.TheVariants as leaves
use Rattle.postcard_schema.specs.Leaves.{float_size, is_signed, size_of}
use Rattle.postcard_schema.specs.Meaning.{MessageType, MessageTypes, leaf, option, seq, array, group, choice, no_types, then_type}
use Rattle.postcard_value.specs.Numbers.{bytes_of, order_of, signed_of}

-- One thing that a message says: a value without parts and without its width, the number of elements, or the index of a variant. An option
-- is said as an enum, with no value at index 0 and a value at index 1. The words of an element of a list, and those of a variant's content,
-- end with `End`.
pub data Word : Type 0 where
  Truth : Bool → Word
  Number : ℤ → Word
  Float : (size bits : ℕ) → Word
  Letter : ℕ → Word
  Phrase : List ℕ → Word
  Count : ℕ → Word
  Index : ℕ → Word
  End : Word

-- What the trees of a set say.
abbrev pub Saying : Type 0
Saying = Tree → List Word

-- The number of these bytes, in two's complement if the first argument is true.
abbrev pub fixed_number : Bool → ℕ → ℕ → ℤ
fixed_number true k n = signed_of k n
fixed_number false k n = pos n

-- A byte, or a varint with or without a sign.
abbrev pub integer_said : Integer → Saying
integer_said integer (Byte b) = Number (fixed_number (is_signed integer) 1 b) ∷ []
integer_said integer (Num w n) = Number (pos n) ∷ []
integer_said integer (Int w z) = Number z ∷ []
integer_said integer t = []

-- The elements of a list, each followed by an end.
abbrev pub each_said : Saying → Trees → List Word
each_said says NoTrees = []
each_said says (Then t ts) = says t ++ End ∷ each_said says ts

-- A list says the number of its elements, and then each element.
abbrev pub list_said : Saying → Saying
list_said says (Seq ts) = Count (count ts) ∷ each_said says ts
list_said says t = []

-- What a message of a type without parts says.
abbrev pub leaf_said : Leaf → Saying
leaf_said leaves.Bool (Boolean x) = Truth x ∷ []
leaf_said (leaves.Integer integer) t = integer_said integer t
leaf_said (leaves.Float float) (Group ts) = Float (float_size float) (low_value (bytes_of ts)) ∷ []
leaf_said leaves.Char (nodes.Char c) = Letter c ∷ []
leaf_said leaves.Str (Text u) = Phrase u ∷ []
leaf_said leaves.Bytes t = list_said (integer_said U8) t
leaf_said (leaves.Fixed order integer) (Group ts) = Number (fixed_number (is_signed integer) (size_of integer) ((order_of order).value (bytes_of ts))) ∷ []
leaf_said l t = []

-- An option says its index, its value if it has one, and an end.
abbrev pub option_said : Saying → Saying
option_said says Absent = Index 0 ∷ End ∷ []
option_said says (Present t) = Index 1 ∷ (says t ++ End ∷ [])
option_said says t = []

-- The elements of an array are said like the parts of a group, without an end, since the type fixes their number.
abbrev pub elements_said : Saying → Trees → List Word
elements_said says NoTrees = []
elements_said says (Then t ts) = says t ++ elements_said says ts

-- An array says what its elements say.
abbrev pub array_said : Saying → Saying
array_said says (Group ts) = elements_said says ts
array_said says t = []

-- A group says what its parts say.
abbrev pub group_said : (Trees → List Word) → Saying
group_said say (Group ts) = say ts
group_said say t = []

-- A value of an enum says its index, its content, and an end.
abbrev pub choice_said : (ℕ → Saying) → Saying
choice_said says (Variant i t) = Index i ∷ (says i t ++ End ∷ [])
choice_said says t = []

-- Parts in a row say what the first says, and then what the others say.
abbrev pub then_said : Saying → (Trees → List Word) → Trees → List Word
then_said says say (Then t ts) = says t ++ say ts
then_said says say ts = []

-- What a tree of a type says.
abbrev mutual
  pub said : MessageType → Saying
  said (leaf l) = leaf_said l
  said (option x) = option_said (said x)
  said (seq x) = list_said (said x)
  said (array n x) = array_said (said x)
  said (group xs) = group_said (said_all xs)
  said (choice xs) = choice_said (said_at xs)

  pub said_all : MessageTypes → Trees → List Word
  said_all no_types = λ ts. []
  said_all (then_type x xs) = then_said (said x) (said_all xs)

  pub said_at : MessageTypes → ℕ → Saying
  said_at no_types i = λ t. []
  said_at (then_type x xs) zero = said x
  said_at (then_type x xs) (suc i) = said_at xs i

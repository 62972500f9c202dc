-- Which JSON is read as a tree of a type with names. It is what `json_of` gives, and other forms of numbers, byte strings and floats.
-- Members may stand in any order.
use Rattle.std.specs.Prelude.{◌≡◌, ℕ, zero, suc, ◌<◌, ◌^◌, ℤ, pos, Bool, true, false, List, map, codes, Some, Ok, to_bits}
use Rattle.std.specs.Char.{encode_utf8}
use Rattle.std.specs.Float.{Float, binary32, binary64, round_to_format}
use Rattle.std.specs.Str.Parse.{IsNumeral, digits_value, signed_digits_value, without_leading_plus, without_leading_sign}
use Rattle.hex.specs.Hex.{decode_of}
use Rattle.postcard_wire.specs.Tree.{Tree, Trees, Byte, Boolean, Text, NoTrees, Then, trees}
use Rattle.postcard_wire.specs.Tree as nodes
use Rattle.postcard_schema.specs.Leaves.{float_size, is_signed, size_of}
use Rattle.postcard_schema.specs.declared.leaf.ByteOrder.TheVariants.{Little}
use Rattle.postcard_schema.specs.declared.leaf.Float.{Float as FloatType}
use Rattle.postcard_schema.specs.declared.leaf.Float.TheVariants.{F32, F64}
use Rattle.postcard_schema.specs.declared.leaf.Integer.{Integer}
use Rattle.postcard_schema.specs.declared.leaf.Leaf.{Leaf}
use Rattle.postcard_schema.specs.declared.leaf.Leaf.TheVariants as leaves
use Rattle.postcard_value.specs.Numbers.{IsBitsOf, fixed_tree, integer_tree}
use Rattle.postcard_value_text.specs.Floats.{SpellsFloat, format_of}
use Rattle.postcard_value_text.specs.Layout.{Layout, Layouts, Fields, leaf, option, list, mapping, array, tuple, structure, choice, no_layouts, then_layout, no_fields, then_field}
use Rattle.serde_json.specs.Data.{Data, Items, null, boolean, number, string, object, unsigned, negative, no_items, item}
use Rattle.serde_json.specs.Data as values
use Rattle.serde_json.specs.Events.{members_len}
use Rattle.serde_json.specs.Read.{read}
use Rattle.serde_json.specs.Find.{get, to_float}
use Rattle.postcard_value_json.specs.Written.{can_be_null, alone}

-- The text is a number in decimal digits, with a sign or without, as std reads it.
abbrev pub IsUnsigned : ℕ → List ℕ → Type 0
IsUnsigned n text = IsNumeral 10 (without_leading_plus text) × (n ≡ digits_value 10 (without_leading_plus text))

-- The text is decimal digits of the signed number, perhaps after a sign.
abbrev pub IsSigned : ℤ → List ℕ → Type 0
IsSigned z text = IsNumeral 10 (without_leading_sign text) × (z ≡ signed_digits_value 10 text)

-- The JSON is the number n: as a number, or as a string of decimal digits, which may have leading zeros and a `+`.
abbrev pub IsUnsignedJson : ℕ → Data → Type 0
IsUnsignedJson n (number (unsigned m)) = n ≡ m
IsUnsignedJson n (string s) = IsUnsigned n s
IsUnsignedJson n d = ⊥

-- The JSON is the signed number, as a number or as a string.
abbrev pub IsSignedJson : ℤ → Data → Type 0
IsSignedJson z (number (unsigned m)) = z ≡ pos m
IsSignedJson z (number (negative w)) = z ≡ w
IsSignedJson z (string s) = IsSigned z s
IsSignedJson z d = ⊥

-- The JSON is the number of the type with these bits, which are in two's complement if the first argument is true.
abbrev pub IsBitsJson : Bool → Integer → ℕ → Data → Type 0
IsBitsJson true integer n d = (z : ℤ) × IsBitsOf integer z n × IsSignedJson z d
IsBitsJson false integer n d = (n < 256 ^ size_of integer) × IsUnsignedJson n d

-- The bits of the float of the type that is nearest to a float of 64 bits.
abbrev pub bits_near : FloatType → Float → ℕ
bits_near F32 x = to_bits binary32 (round_to_format binary32 x)
bits_near F64 x = to_bits binary64 x

-- The JSON is a number whose nearest float has these bits, or a string that denotes them in the notation of `postcard_value_text`. The
-- number is first rounded to 64 bits.
abbrev pub IsFloatJson : FloatType → ℕ → Data → Type 0
IsFloatJson f bits (number n) = bits ≡ bits_near f (to_float n)
IsFloatJson f bits (string s) = SpellsFloat (format_of f) bits s
IsFloatJson f bits d = ⊥

-- The JSON of a value without parts. A byte string is a string of two hexadecimal digits of either case for each byte.
abbrev pub IsLeafJson : Leaf → Tree → Data → Type 0
IsLeafJson leaves.Bool (Boolean x) d = d ≡ boolean x
IsLeafJson (leaves.Integer integer) t d = (n : ℕ) × (t ≡ integer_tree integer n) × IsBitsJson (is_signed integer) integer n d
IsLeafJson (leaves.Float f) t d = (bits : ℕ) × (t ≡ fixed_tree Little (float_size f) bits) × IsFloatJson f bits d
IsLeafJson leaves.Char (nodes.Char c) d = d ≡ string (encode_utf8 c)
IsLeafJson leaves.Str (Text u) d = d ≡ string u
IsLeafJson leaves.Bytes (nodes.Seq ts) d = (bytes : List ℕ) × (s : List ℕ) × (ts ≡ trees (map Byte bytes)) × (d ≡ string s) × (decode_of s ≡ Ok bytes)
IsLeafJson (leaves.Fixed order integer) t d = (n : ℕ) × (t ≡ fixed_tree order (size_of integer) n) × IsBitsJson (is_signed integer) integer n d
IsLeafJson l t d = ⊥

-- Which JSON is read as a tree.
abbrev pub Reading : Type 1
Reading = Tree → Data → Type 0

-- An option: `null`, or its content. If the content's JSON may be `null`, it stands in an object `{"Some": ..}`.
abbrev pub IsOptionJson : Bool → Reading → Reading
IsOptionJson nullable R nodes.Absent d = d ≡ null
IsOptionJson true R (nodes.Present t) d = (e : Data) × (d ≡ alone (codes "Some") e) × R t e
IsOptionJson false R (nodes.Present t) d = R t d
IsOptionJson nullable R t d = ⊥

-- Items that are read as trees, one by one.
abbrev pub AreItems : Reading → Trees → Items → Type 0
AreItems R NoTrees no_items = Unit {0}
AreItems R (Then t ts) (item d ds) = R t d × AreItems R ts ds
AreItems R ts ds = ⊥

-- The JSON is the array of the elements of a list.
abbrev pub IsListJson : Reading → Reading
IsListJson R (nodes.Seq ts) d = (ds : Items) × (d ≡ values.array ds) × AreItems R ts ds
IsListJson R t d = ⊥

-- The JSON is the array of the elements of an array.
abbrev pub IsArrayJson : Reading → Reading
IsArrayJson R (nodes.Group ts) d = (ds : Items) × (d ≡ values.array ds) × AreItems R ts ds
IsArrayJson R t d = ⊥

-- An array of two items.
abbrev pub pair : Data → Data → Data
pair d e = values.array (item d (item e no_items))

-- An entry of a map: an array of a key and a value.
abbrev pub IsEntryJson : Reading → Reading → Reading
IsEntryJson K V (nodes.Group (Then t (Then u NoTrees))) d = (e : Data) × (f : Data) × (d ≡ pair e f) × K t e × V u f
IsEntryJson K V t d = ⊥

-- A tuple: an array of its parts. The unit is `null`.
abbrev pub IsTupleJson : Layouts → (Trees → Items → Type 0) → Reading
IsTupleJson no_layouts P (nodes.Group ts) d = (ts ≡ NoTrees) × (d ≡ null)
IsTupleJson (then_layout x xs) P (nodes.Group ts) d = (ds : Items) × (d ≡ values.array ds) × P ts ds
IsTupleJson xs P t d = ⊥

-- The number of fields.
abbrev pub fields_len : Fields → ℕ
fields_len no_fields = 0
fields_len (then_field n x fs) = suc (fields_len fs)

-- The JSON is an object of n members.
abbrev pub HasMembers : ℕ → Data → Type 0
HasMembers n (object ms) = members_len ms ≡ n
HasMembers n d = ⊥

-- The JSON has a member of this name, which is read as the tree.
abbrev pub IsMember : List ℕ → Reading → Reading
IsMember n R t d = (e : Data) × (get n d ≡ Some e) × R t e

-- A struct: an object with one member for each field.
abbrev pub IsStructJson : ℕ → (Trees → Data → Type 0) → Reading
IsStructJson n P (nodes.Group ts) d = HasMembers n d × P ts d
IsStructJson n P t d = ⊥

-- A variant: its name as a string if its content is the unit, and else an object with the name and the content alone.
abbrev pub IsVariantJson : List ℕ → Layout → Reading → Reading
IsVariantJson n (tuple no_layouts) R t d = (t ≡ nodes.Group NoTrees) × (d ≡ string n)
IsVariantJson n x R t d = (e : Data) × (d ≡ alone n e) × R t e

-- The JSON is a value of an enum, by the variant at its index.
abbrev pub IsChoiceJson : (ℕ → Reading) → Reading
IsChoiceJson R (nodes.Variant i t) d = R i t d
IsChoiceJson R t d = ⊥

abbrev mutual
  -- The JSON is read as the tree, as one of the type.
  pub IsJsonOf : Layout → Reading
  IsJsonOf (leaf l) t d = IsLeafJson l t d
  IsJsonOf (option x) t d = IsOptionJson (can_be_null x) (IsJsonOf x) t d
  IsJsonOf (list x) t d = IsListJson (IsJsonOf x) t d
  IsJsonOf (mapping x y) t d = IsListJson (IsEntryJson (IsJsonOf x) (IsJsonOf y)) t d
  IsJsonOf (array x) t d = IsArrayJson (IsJsonOf x) t d
  IsJsonOf (tuple xs) t d = IsTupleJson xs (AreParts xs) t d
  IsJsonOf (structure fs) t d = IsStructJson (fields_len fs) (AreFields fs) t d
  IsJsonOf (choice fs) t d = IsChoiceJson (IsJsonAt fs) t d

  -- The items are read as trees, one of each type, in order.
  pub AreParts : Layouts → Trees → Items → Type 0
  AreParts no_layouts NoTrees no_items = Unit {0}
  AreParts (then_layout x xs) (Then t ts) (item d ds) = IsJsonOf x t d × AreParts xs ts ds
  AreParts xs ts ds = ⊥

  -- The JSON has a member for each field, which is read as the field's tree.
  pub AreFields : Fields → Trees → Data → Type 0
  AreFields no_fields NoTrees d = Unit {0}
  AreFields (then_field n x fs) (Then t ts) d = IsMember n (IsJsonOf x) t d × AreFields fs ts d
  AreFields fs ts d = ⊥

  -- The JSON is read as the variant at an index, counted from 0.
  pub IsJsonAt : Fields → ℕ → Reading
  IsJsonAt no_fields i t d = ⊥
  IsJsonAt (then_field n x fs) zero t d = IsVariantJson n x (IsJsonOf x) t d
  IsJsonAt (then_field n x fs) (suc i) t d = IsJsonAt fs i t d

-- The text is JSON that is read as the tree, as one of the type.
abbrev pub IsJsonText : Layout → Tree → List ℕ → Type 0
IsJsonText x t text = (d : Data) × (read text ≡ Some d) × IsJsonOf x t d

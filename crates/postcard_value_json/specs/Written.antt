-- The JSON of a tree of a type with names, as serde_json's data.
use Rattle.std.specs.Prelude.{ℕ, zero, suc, ◌*◌, ◌==◌, ◌&&◌, nat_lt, nat_eq, ℤ, pos, negsuc, int_lt, from_bits, Bool, true, false, if◌then◌else◌, List, [], ◌∷◌, ◌++◌, Option, Some, None, option_map, option_and_then, is_some, codes}
use Rattle.std.specs.Char.{encode_utf8}
use Rattle.std.specs.Fmt.{decimal, signed_decimal, digits}
use Rattle.std.specs.Float.{float_is_finite}
use Rattle.hex.specs.Hex.{encode_lower}
use Rattle.postcard_wire.specs.Tree.{Tree, Trees, Byte, Boolean, Num, Int, Text, NoTrees, Then}
use Rattle.postcard_wire.specs.Tree as nodes
use Rattle.postcard_shape.specs.Base256.{low_value}
use Rattle.postcard_schema.specs.Leaves.{is_signed, size_of}
use Rattle.postcard_schema.specs.declared.leaf.Float.{Float}
use Rattle.postcard_schema.specs.declared.leaf.Float.TheVariants.{F32, F64}
use Rattle.postcard_schema.specs.declared.leaf.Integer.{Integer}
use Rattle.postcard_schema.specs.declared.leaf.Integer.TheVariants.{U8, I8}
use Rattle.postcard_schema.specs.declared.leaf.Leaf.{Leaf}
use Rattle.postcard_schema.specs.declared.leaf.Leaf.TheVariants as leaves
use Rattle.postcard_value.specs.Numbers.{order_of, bytes_of, signed_of}
use Rattle.postcard_value_text.specs.Floats.{format_of}
use Rattle.postcard_value_text.specs.Layout.{Layout, Layouts, Fields, leaf, option, list, mapping, array, tuple, structure, choice, no_layouts, then_layout, no_fields, then_field, is_unit}
use Rattle.serde_json.specs.Data.{Data, Members, null, boolean, number, string, object, unsigned, float, no_members, member, put}
use Rattle.serde_json.specs.Data as values
use Rattle.serde_json.specs.Find.{of_integer, get_member}
use Rattle.serde_json.specs.View.{items_of}

-- The JSON of a tree, or `None` if the tree is not of the type.
abbrev pub Writer : Type 0
Writer = Tree → Option Data

-- The JSON of a number: a number if its magnitude is below 2^53, so that each reader of JSON keeps it. Otherwise it is a string of its
-- decimal digits.
abbrev pub unsigned_json : ℕ → Data
unsigned_json n = if nat_lt n 9007199254740992 then number (unsigned n) else string (decimal n)

-- Whether the magnitude of a number is below 2^53.
abbrev pub is_small : ℤ → Bool
is_small z = int_lt (negsuc 9007199254740991) z && int_lt z (pos 9007199254740992)

-- The JSON of a signed number: a number if it is small, and else a string.
abbrev pub signed_json : ℤ → Data
signed_json z = if is_small z then number (of_integer z) else string (signed_decimal z)

-- The JSON of the number with these bits in k bytes, which are in two's complement if the first argument is true.
abbrev pub bits_json : Bool → ℕ → ℕ → Data
bits_json true k n = signed_json (signed_of k n)
bits_json false k n = unsigned_json n

-- The JSON of a number of 8 bits, whose tree is the byte of its bits.
abbrev pub byte_json : Bool → Writer
byte_json signed (Byte n) = Some (bits_json signed 1 n)
byte_json signed t = None

-- The JSON of a number that is written as a varint, by whether its type has a sign and by its number of bits.
abbrev pub varint_json : Bool → ℕ → Writer
varint_json false width (Num w n) = if w == width then Some (unsigned_json n) else None
varint_json true width (Int w z) = if w == width then Some (signed_json z) else None
varint_json signed width t = None

-- The JSON of a tree of a type of integers.
abbrev pub integer_json : Integer → Writer
integer_json U8 = byte_json false
integer_json I8 = byte_json true
integer_json integer = varint_json (is_signed integer) (8 * size_of integer)

-- The bits of the infinities, and of the NaN that is Rust's `NAN`.
abbrev pub infinity : Float → ℕ
infinity F32 = 0x7f80_0000
infinity F64 = 0x7ff0_0000_0000_0000

-- The bits of negative infinity.
abbrev pub negative_infinity : Float → ℕ
negative_infinity F32 = 0xff80_0000
negative_infinity F64 = 0xfff0_0000_0000_0000

-- The bits of `f32::NAN` and `f64::NAN`.
abbrev pub usual_nan : Float → ℕ
usual_nan F32 = 0x7fc0_0000
usual_nan F64 = 0x7ff8_0000_0000_0000

-- The text of the bits of a float that is not finite. Another NaN has its bits in hexadecimal.
abbrev pub special_text : Float → ℕ → List ℕ
special_text f bits = if nat_eq bits (infinity f) then codes "inf" else (if nat_eq bits (negative_infinity f) then codes "-inf" else (if nat_eq bits (usual_nan f) then codes "nan" else codes "nan(0x" ++ digits 16 false bits ++ codes ")"))

-- The JSON of a float with these bits: its number, or a string if it is not finite.
abbrev pub float_json : Float → ℕ → Data
float_json f bits = if float_is_finite (from_bits (format_of f) bits) then number (float (from_bits (format_of f) bits)) else string (special_text f bits)

-- The JSON of a value without parts.
abbrev pub leaf_json : Leaf → Writer
leaf_json leaves.Bool (Boolean x) = Some (boolean x)
leaf_json (leaves.Integer integer) t = integer_json integer t
leaf_json (leaves.Float f) (nodes.Group ts) = Some (float_json f (low_value (bytes_of ts)))
leaf_json leaves.Char (nodes.Char c) = Some (string (encode_utf8 c))
leaf_json leaves.Str (Text u) = Some (string u)
leaf_json leaves.Bytes (nodes.Seq ts) = Some (string (encode_lower (bytes_of ts)))
leaf_json (leaves.Fixed order integer) (nodes.Group ts) = Some (bits_json (is_signed integer) (size_of integer) ((order_of order).value (bytes_of ts)))
leaf_json l t = None

-- Whether the JSON of a value of the type may be `null`.
abbrev pub can_be_null : Layout → Bool
can_be_null (option x) = true
can_be_null x = is_unit x

-- An object with one member.
abbrev pub alone : List ℕ → Data → Data
alone name d = object (member name d no_members)

-- The JSON of an option: `null`, or that of the content. If the content's JSON may be `null`, it stands in an object `{"Some": ..}`.
abbrev pub option_json : Bool → Writer → Writer
option_json nullable p nodes.Absent = Some null
option_json true p (nodes.Present t) = option_map (alone (codes "Some")) (p t)
option_json false p (nodes.Present t) = p t
option_json nullable p t = None

-- The JSON of each tree, all by one writer.
abbrev pub all_json : Writer → Trees → Option (List Data)
all_json p NoTrees = Some []
all_json p (Then t ts) = option_and_then (λ d. option_map (λ ds. d ∷ ds) (all_json p ts)) (p t)

-- The JSON of trees, each by its own writer. It is `None` if the numbers of writers and trees differ.
abbrev pub each_json : List Writer → Trees → Option (List Data)
each_json [] NoTrees = Some []
each_json (p ∷ ps) (Then t ts) = option_and_then (λ d. option_map (λ ds. d ∷ ds) (each_json ps ts)) (p t)
each_json ps ts = None

-- An array of JSON.
abbrev pub row : List Data → Data
row ds = values.array (items_of ds)

-- An array of the JSON of each tree.
abbrev pub items_json : Writer → Trees → Option Data
items_json p ts = option_map row (all_json p ts)

-- The JSON of a list: the array of its elements.
abbrev pub list_json : Writer → Writer
list_json p (nodes.Seq ts) = items_json p ts
list_json p t = None

-- The JSON of an array: the array of its elements.
abbrev pub array_json : Writer → Writer
array_json p (nodes.Group ts) = items_json p ts
array_json p t = None

-- An array of the parts of a tuple, but `null` for the unit.
abbrev pub parts_row : List Data → Data
parts_row [] = null
parts_row (d ∷ ds) = row (d ∷ ds)

abbrev pub parts_json : List Writer → Trees → Option Data
parts_json ps ts = option_map parts_row (each_json ps ts)

-- The JSON of a tuple: the array of its parts, and `null` for the unit.
abbrev pub tuple_json : List Writer → Writer
tuple_json ps (nodes.Group ts) = parts_json ps ts
tuple_json ps t = None

-- The JSON of an entry of a map: that of a tuple of a key and a value.
abbrev pub entry_json : Writer → Writer → Writer
entry_json key value = tuple_json (key ∷ value ∷ [])

-- The name of a field, and the JSON of its content.
abbrev pub FieldWriter : Type 0
FieldWriter = List ℕ × Writer

-- The members and one more. It is `None` if there already is one with this name.
abbrev pub add_member : List ℕ → Data → Members → Option Members
add_member n d ms = if is_some (get_member n ms) then None else Some (put n d ms)

-- Some members, and after them the JSON of trees, each as a field. It is `None` if the numbers of fields and trees differ, or two fields
-- have the same name.
abbrev pub members_json : List FieldWriter → Trees → Members → Option Members
members_json [] NoTrees ms = Some ms
members_json (f ∷ fs) (Then t ts) ms = option_and_then (λ d. option_and_then (members_json fs ts) (add_member f.0 d ms)) (f.1 t)
members_json fs ts ms = None

-- An object of the fields of a struct.
abbrev pub fields_json : List FieldWriter → Trees → Option Data
fields_json fs ts = option_map object (members_json fs ts no_members)

-- The JSON of a struct: the object of its fields.
abbrev pub struct_json : List FieldWriter → Writer
struct_json fs (nodes.Group ts) = fields_json fs ts
struct_json fs t = None

-- The JSON of a variant: its name as a string if its content is the unit. Otherwise it is an object with the name and the content.
abbrev pub variant_json : List ℕ → Layout → Writer → Writer
variant_json n x p t = if is_unit x then Some (string n) else option_map (alone n) (p t)

-- The JSON of an enum's value, by the variant at its index.
abbrev pub choice_json : (ℕ → Writer) → Writer
choice_json p (nodes.Variant i t) = p i t
choice_json p t = None

abbrev mutual
  -- The JSON of a tree of the type. A map is an array of its entries, since an object keeps neither their order nor equal keys.
  pub json_of : Layout → Writer
  json_of (leaf l) = leaf_json l
  json_of (option x) = option_json (can_be_null x) (json_of x)
  json_of (list x) = list_json (json_of x)
  json_of (mapping x y) = list_json (entry_json (json_of x) (json_of y))
  json_of (array x) = array_json (json_of x)
  json_of (tuple xs) = tuple_json (writers xs)
  json_of (structure fs) = struct_json (field_writers fs)
  json_of (choice fs) = choice_json (json_at fs)

  -- The writers of the types, in order.
  pub writers : Layouts → List Writer
  writers no_layouts = []
  writers (then_layout x xs) = json_of x ∷ writers xs

  -- The names and the writers of the fields, in order.
  pub field_writers : Fields → List FieldWriter
  field_writers no_fields = []
  field_writers (then_field n x fs) = (n, json_of x) ∷ field_writers fs

  -- The JSON of the variant at an index, counted from 0.
  pub json_at : Fields → ℕ → Writer
  json_at no_fields i = λ t. None
  json_at (then_field n x fs) zero = variant_json n x (json_of x)
  json_at (then_field n x fs) (suc i) = json_at fs i

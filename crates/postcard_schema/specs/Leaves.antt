-- Types without parts: the sizes of numbers, whether they have a sign, and the names of types as expressions have them.
use Rattle.std.specs.Prelude.{ℕ, Bool, true, false, List, ◌++◌, codes}
use Rattle.postcard_schema.specs.declared.leaf.ByteOrder.{ByteOrder}
use Rattle.postcard_schema.specs.declared.leaf.ByteOrder.TheVariants.{Little, Big}
use Rattle.postcard_schema.specs.declared.leaf.Float.{Float}
use Rattle.postcard_schema.specs.declared.leaf.Float.TheVariants.{F32, F64}
use Rattle.postcard_schema.specs.declared.leaf.Integer.{Integer}
use Rattle.postcard_schema.specs.declared.leaf.Integer.TheVariants.{U8, U16, U32, U64, U128, I8, I16, I32, I64, I128}
use Rattle.postcard_schema.specs.declared.leaf.Leaf.{Leaf}
use Rattle.postcard_schema.specs.declared.leaf.Leaf.TheVariants as leaves

-- The number of bytes of a number at its full width.
abbrev pub size_of : Integer → ℕ
size_of U8 = 1
size_of U16 = 2
size_of U32 = 4
size_of U64 = 8
size_of U128 = 16
size_of I8 = 1
size_of I16 = 2
size_of I32 = 4
size_of I64 = 8
size_of I128 = 16

-- Whether the numbers may be negative.
abbrev pub is_signed : Integer → Bool
is_signed U8 = false
is_signed U16 = false
is_signed U32 = false
is_signed U64 = false
is_signed U128 = false
is_signed I8 = true
is_signed I16 = true
is_signed I32 = true
is_signed I64 = true
is_signed I128 = true

-- The name of a type of integers.
abbrev pub integer_name : Integer → List ℕ
integer_name U8 = codes "u8"
integer_name U16 = codes "u16"
integer_name U32 = codes "u32"
integer_name U64 = codes "u64"
integer_name U128 = codes "u128"
integer_name I8 = codes "i8"
integer_name I16 = codes "i16"
integer_name I32 = codes "i32"
integer_name I64 = codes "i64"
integer_name I128 = codes "i128"

-- The number of bytes of a float.
abbrev pub float_size : Float → ℕ
float_size F32 = 4
float_size F64 = 8

-- The name of a type of floats.
abbrev pub float_name : Float → List ℕ
float_name F32 = codes "f32"
float_name F64 = codes "f64"

-- The name of an order of bytes.
abbrev pub order_name : ByteOrder → List ℕ
order_name Little = codes "LE"
order_name Big = codes "BE"

-- The name of a type without parts.
abbrev pub leaf_name : Leaf → List ℕ
leaf_name leaves.Bool = codes "bool"
leaf_name (leaves.Integer integer) = integer_name integer
leaf_name (leaves.Float float) = float_name float
leaf_name leaves.Char = codes "char"
leaf_name leaves.Str = codes "str"
leaf_name leaves.Bytes = codes "bytes"
leaf_name (leaves.Fixed order integer) = order_name order ++ (codes "<" ++ (integer_name integer ++ codes ">"))

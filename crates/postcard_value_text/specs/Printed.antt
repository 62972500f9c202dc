-- The texts as which errors are printed.
use Rattle.std.specs.Prelude.{ℕ, nat_eq, if◌then◌else◌, List, ◌++◌, codes}
use Rattle.std.specs.Char.{encode_utf8}
use Rattle.std.specs.Fmt.{decimal}
use Rattle.postcard_schema.specs.declared.leaf.Float.{Float}
use Rattle.postcard_schema.specs.declared.leaf.Float.TheVariants as floats
use Rattle.postcard_schema.specs.declared.leaf.Integer.{Integer}
use Rattle.postcard_schema.specs.declared.leaf.Integer.TheVariants as integers
use Rattle.postcard_schema.specs.declared.leaf.Leaf.{Leaf}
use Rattle.postcard_schema.specs.declared.leaf.Leaf.TheVariants as leaves
use Rattle.postcard_value_text.specs.declared.expected.Expected.{Expected}
use Rattle.postcard_value_text.specs.declared.expected.Expected.TheVariants as places
use Rattle.postcard_value_text.specs.declared.error.TextError.{TextError}
use Rattle.postcard_value_text.specs.declared.error.TextError.TheVariants.{NotAValue, OutOfMemory}

-- The phrase for a number of an integer type, with its range.
abbrev pub number_phrase : Integer → List ℕ
number_phrase integers.U8 = codes "a number of u8, 0 to 255"
number_phrase integers.U16 = codes "a number of u16, 0 to 65535"
number_phrase integers.U32 = codes "a number of u32, 0 to 4294967295"
number_phrase integers.U64 = codes "a number of u64, 0 to 2^64 - 1"
number_phrase integers.U128 = codes "a number of u128, 0 to 2^128 - 1"
number_phrase integers.I8 = codes "a number of i8, -128 to 127"
number_phrase integers.I16 = codes "a number of i16, -32768 to 32767"
number_phrase integers.I32 = codes "a number of i32, -2147483648 to 2147483647"
number_phrase integers.I64 = codes "a number of i64, -2^63 to 2^63 - 1"
number_phrase integers.I128 = codes "a number of i128, -2^127 to 2^127 - 1"

-- The phrase for a float.
abbrev pub float_phrase : Float → List ℕ
float_phrase floats.F32 = codes "a number of f32, as 1.5, inf or nan"
float_phrase floats.F64 = codes "a number of f64, as 1.5, inf or nan"

-- The phrase for a value of a type without parts, with its range.
abbrev pub leaf_phrase : Leaf → List ℕ
leaf_phrase leaves.Bool = codes "`true` or `false`"
leaf_phrase (leaves.Integer integer) = number_phrase integer
leaf_phrase (leaves.Float float) = float_phrase float
leaf_phrase leaves.Char = codes "a character in single quotes"
leaf_phrase leaves.Str = codes "a text in double quotes"
leaf_phrase leaves.Bytes = codes "bytes, as 0x00ff"
leaf_phrase (leaves.Fixed order integer) = number_phrase integer

-- The word for n elements.
abbrev pub elements_text : ℕ → List ℕ
elements_text n = if nat_eq n 1 then codes "element" else codes "elements"

-- The phrase for what is expected.
abbrev pub expected_text : Expected → List ℕ
expected_text (places.Leaf leaf) = leaf_phrase leaf
expected_text places.Bits = codes "the bits of a NaN, as 0x7fc00001, and `)`"
expected_text places.Escape = codes "an escape, as `n` or `u{e9}`"
expected_text places.Code = codes "the code of a character, as `{e9}`"
expected_text places.NoneOrSome = codes "`None` or `Some`"
expected_text places.Variant = codes "a variant of the enum"
expected_text (places.Field name) = codes "field `" ++ (name.now ++ codes "`")
expected_text (places.NextField name) = codes "`,` and field `" ++ (name.now ++ codes "`")
expected_text (places.Sign sign) = codes "`" ++ (encode_utf8 sign ++ codes "`")
expected_text (places.CommaOr sign) = codes "`,` or `" ++ (encode_utf8 sign ++ codes "`")
expected_text places.Arrow = codes "`=>`"
expected_text (places.Elements count) = decimal count ++ (codes " " ++ elements_text count)
expected_text places.End = codes "the end"

-- The text of an error.
abbrev pub value_error_text : TextError → List ℕ
value_error_text (NotAValue character expected) = codes "bad value at character " ++ (decimal character ++ (codes ": expected " ++ expected_text expected))
value_error_text OutOfMemory = codes "out of memory"

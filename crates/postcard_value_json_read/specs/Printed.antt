-- The texts as which errors are printed.
use Rattle.std.specs.Prelude.{ℕ, nat_eq, if◌then◌else◌, Bool, true, false, List, [], ◌∷◌, ◌++◌, codes, string_bytes}
use Rattle.std.specs.Fmt.{decimal}
use Rattle.postcard_schema.specs.Leaves.{integer_name, leaf_name}
use Rattle.postcard_schema.specs.Paths.{path_text}
use Rattle.postcard_schema.specs.declared.leaf.Leaf.{Leaf}
use Rattle.postcard_schema.specs.declared.leaf.Leaf.TheVariants as leaves
use Rattle.postcard_value_json_read.specs.declared.error.Expected.{Expected}
use Rattle.postcard_value_json_read.specs.declared.error.Expected.TheVariants as places
use Rattle.postcard_value_json_read.specs.declared.error.JsonError.{JsonError}
use Rattle.postcard_value_json_read.specs.declared.error.JsonError.TheVariants.{NotAValue, OutOfMemory}
use Rattle.postcard_value_json_read.specs.declared.text.JsonTextError.{JsonTextError}
use Rattle.postcard_value_json_read.specs.declared.text.JsonTextError.TheVariants as text_errors

-- The name of a type without parts, where one is expected. That of a number at its full width is the number's.
abbrev pub expected_leaf_text : Leaf → List ℕ
expected_leaf_text (leaves.Fixed order integer) = integer_name integer
expected_leaf_text leaf = leaf_name leaf

-- The word for n members.
abbrev pub members_text : ℕ → List ℕ
members_text n = if nat_eq n 1 then codes "member" else codes "members"

-- The phrase for what is wrong: what is expected, or that a member is missing or unknown.
abbrev pub expected_text : Expected → List ℕ
expected_text (places.Leaf leaf) = codes "expected " ++ expected_leaf_text leaf
expected_text places.Option = codes "expected null or an object with the member Some alone"
expected_text places.Array = codes "expected an array"
expected_text (places.ArrayOf count) = codes "expected an array of length " ++ decimal count
expected_text places.Null = codes "expected null"
expected_text (places.ObjectOf count) = codes "expected an object with " ++ (decimal count ++ (codes " " ++ members_text count))
expected_text places.Present = codes "missing member"
expected_text places.Absent = codes "unknown member"
expected_text places.Variant = codes "expected a variant"
expected_text places.Json = codes "expected JSON"

-- Whether a list is empty.
abbrev pub is_empty : {A : Type 0} → List A → Bool
is_empty [] = true
is_empty (x ∷ xs) = false

-- What stands between a path and what is expected there. The argument says whether the path is empty.
abbrev pub colon_after : Bool → List ℕ
colon_after true = []
colon_after false = codes ": "

-- The text of an error.
abbrev pub json_error_text : JsonError → List ℕ
json_error_text (NotAValue path expected) = path_text path.steps.items ++ (colon_after (is_empty path.steps.items) ++ expected_text expected)
json_error_text OutOfMemory = codes "out of memory"

-- The text of an error of reading a text.
abbrev pub text_error_text : JsonTextError → List ℕ
text_error_text (text_errors.NotAValue character path expected) =
    codes "bad value at character " ++ (decimal character ++ (codes ": " ++ (string_bytes path ++ (colon_after (is_empty (string_bytes path)) ++ expected_text expected))))
text_error_text text_errors.OutOfMemory = codes "out of memory"

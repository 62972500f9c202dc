-- What TYPE stands for where it may be a name.
use Rattle.std.specs.Prelude.{◌≡◌, ℕ, nat_eq, Bool as TruthValue, true, if◌then◌else◌, List, [], ◌∷◌, codes}
use Rattle.std.specs.List.{starts_with, ends_with, list_any}
use lib.Pointwise.{pointwise}
use Rattle.pcard_calls.specs.declared.names.ValueType.{ValueType}
use Rattle.pcard_calls.specs.declared.names.ValueType.TheVariants.{U8, U16, U32, U64, U128, I8, I16, I32, I64, I128, Bool, Char, Str, ListU8, ListU32}
use Rattle.pcard_calls.specs.declared.names.TypeWord.{TypeWord}
use Rattle.pcard_calls.specs.declared.names.TypeWord.TheVariants.{Named, Expression}

-- The word that names a type.
abbrev pub name_of : ValueType → List ℕ
name_of U8 = codes "u8"
name_of U16 = codes "u16"
name_of U32 = codes "u32"
name_of U64 = codes "u64"
name_of U128 = codes "u128"
name_of I8 = codes "i8"
name_of I16 = codes "i16"
name_of I32 = codes "i32"
name_of I64 = codes "i64"
name_of I128 = codes "i128"
name_of Bool = codes "bool"
name_of Char = codes "char"
name_of Str = codes "str"
name_of ListU8 = codes "list-u8"
name_of ListU32 = codes "list-u32"

-- Whether the word begins with `(` (40), `[` (91), `{` (123) or `&` (38).
abbrev pub begins_expression : List ℕ → TruthValue
begins_expression word =
    if starts_with nat_eq word (40 ∷ []) then true else
    if starts_with nat_eq word (91 ∷ []) then true else
    if starts_with nat_eq word (123 ∷ []) then true else starts_with nat_eq word (38 ∷ [])

-- Whether the word begins with one of these, ends with `?` (63) or `>` (62), has a `|` (124), or is `f32` or `f64`.
abbrev pub looks_like_expression : List ℕ → TruthValue
looks_like_expression word =
    if begins_expression word then true else
    if ends_with nat_eq word (63 ∷ []) then true else
    if ends_with nat_eq word (62 ∷ []) then true else
    if list_any (λ b. nat_eq b 124) word then true else
    if pointwise nat_eq word (codes "f32") then true else pointwise nat_eq word (codes "f64")

-- The word stands for this: it is the name of a type, or looks like a type expression.
abbrev pub IsWordOf : List ℕ → TypeWord → Type 0
IsWordOf word (Named kind) = word ≡ name_of kind
IsWordOf word Expression = looks_like_expression word ≡ true

-- The names of types; and of types of Rust that have types in `<` and `>`, which schema each is of the types in it.
use Rattle.std.specs.Prelude.{◌≡◌, ◌<◌, true, ◌⊎◌, List, ℕ, [], ◌∷◌, Vec, Box, codes}
use Rattle.std.specs.declared.alloc.Global.{Global}
use Rattle.postcard_schema.specs.declared.leaf.Integer.{Integer}
use Rattle.postcard_schema.specs.declared.leaf.Integer.TheVariants.{U64, I64}
use Rattle.postcard_schema.specs.declared.leaf.Leaf.{Leaf}
use Rattle.postcard_schema.specs.declared.leaf.Leaf.TheVariants as leaves
use Rattle.postcard_schema.specs.declared.schema.Named.{Named}
use Rattle.postcard_schema.specs.declared.schema.Schema.{Schema}
use Rattle.postcard_schema.specs.declared.schema.Schema.TheVariants as schemas
use Rattle.postcard_schema.specs.Leaves.{float_name, integer_name, order_name, size_of}
use Rattle.postcard_schema.specs.Meaning.{MessageType, leaf, entry_of, has_bytes, type_of}
use Rattle.postcard_schema_text.specs.declared.angled.Holder.{Holder}
use Rattle.postcard_schema_text.specs.declared.angled.Holder.TheVariants as holders
use Rattle.postcard_schema_text.specs.declared.angled.Pair.{Pair}
use Rattle.postcard_schema_text.specs.declared.angled.Pair.TheVariants as pairs
use Rattle.postcard_schema_text.specs.declared.names.TypeName.{TypeName}
use Rattle.postcard_schema_text.specs.declared.names.TypeName.TheVariants as names
use Rattle.postcard_schema_text.specs.declared.angled.Angled.{Angled}
use Rattle.postcard_schema_text.specs.declared.angled.Angled.TheVariants as kinds
use Rattle.postcard_schema_text.specs.Names.{IsCalled}

-- The word names the type of integers. A `usize` is a number of 64 bits, and so is an `isize` (wire format 1.0, "varint encoded
-- integers").
abbrev pub IsIntegerName : List ℕ → Integer → Type 0
IsIntegerName word U64 = (word ≡ codes "u64") ⊎ (word ≡ codes "usize")
IsIntegerName word I64 = (word ≡ codes "i64") ⊎ (word ≡ codes "isize")
IsIntegerName word integer = word ≡ integer_name integer

-- The word names the type without parts. No word alone names a type of numbers at their full width.
abbrev pub IsNameOf : List ℕ → Leaf → Type 0
IsNameOf word leaves.Bool = word ≡ codes "bool"
IsNameOf word (leaves.Integer integer) = IsIntegerName word integer
IsNameOf word (leaves.Float float) = word ≡ float_name float
IsNameOf word leaves.Char = word ≡ codes "char"
IsNameOf word leaves.Str = (word ≡ codes "str") ⊎ (word ≡ codes "String")
IsNameOf word leaves.Bytes = word ≡ codes "bytes"
IsNameOf word (leaves.Fixed order integer) = ⊥

-- The word names the type of one type.
abbrev pub IsHolderName : List ℕ → Holder → Type 0
IsHolderName word holders.Itself = word ≡ codes "Box"
IsHolderName word holders.List = word ≡ codes "Vec"
IsHolderName word holders.Option = word ≡ codes "Option"
IsHolderName word (holders.Fixed order) = word ≡ order_name order

-- The type is that of integers of 16 bits or more, which may have a fixed width.
abbrev pub IsWide : Integer → MessageType → Type 0
IsWide integer t = (t ≡ leaf (leaves.Integer integer)) × (1 < size_of integer)

-- A type that may stand in its brackets. The elements of a list have bytes.
abbrev pub MayHold : Holder → MessageType → Type 0
MayHold holders.Itself t = Unit {0}
MayHold holders.List t = has_bytes t ≡ true
MayHold holders.Option t = Unit {0}
MayHold (holders.Fixed order) t = (integer : Integer) × IsWide integer t

-- The schema s is that of the type of one type, x.
abbrev pub IsHolderOf : Holder → Schema → Schema → Type 0
IsHolderOf holders.Itself x s = s ≡ x
IsHolderOf holders.List x s = (b : Box Schema Global) × (s ≡ schemas.Seq b) × (b.value ≡ x)
IsHolderOf holders.Option x s = (b : Box Schema Global) × (s ≡ schemas.Option b) × (b.value ≡ x)
IsHolderOf (holders.Fixed order) x s = (integer : Integer) × IsWide integer (type_of x) × (s ≡ schemas.Leaf (leaves.Fixed order integer))

-- The word names the type of two types.
abbrev pub IsPairName : List ℕ → Pair → Type 0
IsPairName word pairs.Map = (word ≡ codes "BTreeMap") ⊎ (word ≡ codes "HashMap")
IsPairName word pairs.Result = word ≡ codes "Result"

-- The word names the type with types in `<` and `>`.
abbrev pub IsAngledName : List ℕ → Angled → Type 0
IsAngledName word (kinds.Holder holder) = IsHolderName word holder
IsAngledName word (kinds.Pair pair) = IsPairName word pair

-- The word stands for this.
abbrev pub IsTypeName : List ℕ → TypeName → Type 0
IsTypeName word (names.Leaf l) = IsNameOf word l
IsTypeName word (names.Angled kind) = IsAngledName word kind

-- Two types that may stand in its brackets. The entries of a map have bytes.
abbrev pub MayPair : Pair → MessageType → MessageType → Type 0
MayPair pairs.Map t u = has_bytes (entry_of t u) ≡ true
MayPair pairs.Result t u = Unit {0}

-- The schema s is that of the type of two types, x and y: a map from x to y, or the enum `Ok(x) | Err(y)`.
abbrev pub IsPairOf : Pair → Schema → Schema → Schema → Type 0
IsPairOf pairs.Map x y s = (b : Box Schema Global) × (c : Box Schema Global) × (s ≡ schemas.Map b c) × (b.value ≡ x) × (c.value ≡ y)
IsPairOf pairs.Result x y s = (v : Vec (Named Schema) Global) × (n : Named Schema) × (m : Named Schema)
    × (s ≡ schemas.Enum v) × (v.items ≡ n ∷ m ∷ []) × IsCalled (codes "Ok") x n × IsCalled (codes "Err") y m

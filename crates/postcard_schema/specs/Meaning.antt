-- The meaning of a schema: the set of trees of its messages (wire format 1.0, chapter "the serde data model").
use Rattle.std.specs.Prelude.{ℕ, zero, suc, ◌*◌, nat_lt, Bool, true, false, if◌then◌else◌, List, [], ◌∷◌, map, box_value}
use Rattle.postcard_wire.specs.Tree.{Tree, Trees}
use Rattle.postcard_wire.specs.Reading.{IsByte, IsBoolean, IsNum, IsInt, IsChar, IsText, IsOption, IsEnd, IsThen, IsGroup, IsSeq, IsArray, IsVariant}
use Rattle.postcard_schema.specs.Leaves.{float_size, is_signed, size_of}
use Rattle.postcard_schema.specs.declared.leaf.Integer.{Integer}
use Rattle.postcard_schema.specs.declared.leaf.Integer.TheVariants.{U8, I8}
use Rattle.postcard_schema.specs.declared.leaf.Leaf.{Leaf}
use Rattle.postcard_schema.specs.declared.leaf.Leaf.TheVariants as leaves
use Rattle.postcard_schema.specs.declared.schema.Named.{Named}
use Rattle.postcard_schema.specs.declared.schema.Schema.{Schema, fold-Schema}
use Rattle.postcard_schema.specs.declared.schema.Schema.TheOpen.{Schema-F}

mutual
  -- A type without the names of its fields and variants. A map is a `seq` of groups of two.
  pub data MessageType : Type 0 where
    leaf : Leaf → MessageType
    option : MessageType → MessageType
    seq : MessageType → MessageType
    array : ℕ → MessageType → MessageType
    group : MessageTypes → MessageType
    choice : MessageTypes → MessageType

  pub data MessageTypes : Type 0 where
    no_types : MessageTypes
    then_type : MessageType → MessageTypes → MessageTypes

-- The trees of numbers with this many bits that are written as varints, by whether they have a sign.
abbrev pub varint_reads : Bool → ℕ → Tree → Type 0
varint_reads false = IsNum
varint_reads true = IsInt

-- The trees of a type of integers. A number of 8 bits is a byte, and a wider one a varint (wire format 1.0, "varint encoded integers"). A
-- signed number is written as its zigzag encoding.
abbrev pub integer_reads : Integer → Tree → Type 0
integer_reads U8 = IsByte
integer_reads I8 = IsByte
integer_reads integer = varint_reads (is_signed integer) (8 * size_of integer)

-- The trees of a type without parts. A float is the array of the 4 or 8 bytes of its bits (wire format 1.0, "f32" and "f64"). A number at
-- its full width is the array of its bytes. `bytes` is a counted list of bytes.
abbrev pub leaf_reads : Leaf → Tree → Type 0
leaf_reads leaves.Bool = IsBoolean
leaf_reads (leaves.Integer integer) = integer_reads integer
leaf_reads (leaves.Float float) = IsArray (float_size float) IsByte
leaf_reads leaves.Char = IsChar
leaf_reads leaves.Str = IsText
leaf_reads leaves.Bytes = IsSeq IsByte
leaf_reads (leaves.Fixed order integer) = IsArray (size_of integer) IsByte

-- The trees of a type's messages.
abbrev mutual
  pub reads : MessageType → Tree → Type 0
  reads (leaf l) = leaf_reads l
  reads (option t) = IsOption (reads t)
  reads (seq t) = IsSeq (reads t)
  reads (array n t) = IsArray n (reads t)
  reads (group ts) = IsGroup (reads_all ts)
  reads (choice ts) = IsVariant (reads_at ts)

  -- One tree of each type, in order.
  pub reads_all : MessageTypes → Trees → Type 0
  reads_all no_types = IsEnd
  reads_all (then_type t ts) = IsThen (reads t) (reads_all ts)

  -- The trees of the type at an index, counted from 0. An index past the last type has none.
  pub reads_at : MessageTypes → ℕ → Tree → Type 0
  reads_at no_types i = λ s. ⊥
  reads_at (then_type t ts) zero = reads t
  reads_at (then_type t ts) (suc i) = reads_at ts i

-- The types of a list, in the same order.
abbrev pub row_of : List MessageType → MessageTypes
row_of [] = no_types
row_of (t ∷ ts) = then_type t (row_of ts)

-- What has the names of a list, in the same order.
abbrev pub contents : {A : Type 0} → List (Named A) → List A
contents [] = []
contents (n ∷ ns) = n.content ∷ contents ns

-- The type of an entry of a map.
abbrev pub entry_of : MessageType → MessageType → MessageType
entry_of key value = group (then_type key (then_type value no_types))

-- One step of the fold `type_of`: the type of a schema whose parts are already types.
abbrev pub type_step : Schema-F MessageType → MessageType
type_step (Schema-F.Leaf l) = leaf l
type_step (Schema-F.Option t) = option (box_value t)
type_step (Schema-F.Seq t) = seq (box_value t)
type_step (Schema-F.Map key value) = seq (entry_of (box_value key) (box_value value))
type_step (Schema-F.Array t n) = array n (box_value t)
type_step (Schema-F.Tuple v) = group (row_of v.items)
type_step (Schema-F.Struct v) = group (row_of (contents v.items))
type_step (Schema-F.Enum v) = choice (row_of (contents v.items))

-- The type of a schema: the schema without names.
abbrev pub type_of : Schema → MessageType
type_of = fold-Schema MessageType type_step

-- The types of a list of schemas, in the same order.
abbrev pub types_of : List Schema → MessageTypes
types_of ss = row_of (map type_of ss)

-- Whether each message of a type has at least one byte.
abbrev mutual
  pub has_bytes : MessageType → Bool
  has_bytes (leaf l) = true
  has_bytes (option t) = true
  has_bytes (seq t) = true
  has_bytes (array n t) = if nat_lt 0 n then has_bytes t else false
  has_bytes (group ts) = some_has_bytes ts
  has_bytes (choice ts) = true

  -- Whether at least one of the types has a byte or more in each message.
  pub some_has_bytes : MessageTypes → Bool
  some_has_bytes no_types = false
  some_has_bytes (then_type t ts) = if has_bytes t then true else some_has_bytes ts

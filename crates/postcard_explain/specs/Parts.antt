-- The labels of the parts of a value, and which parts a value of a schema has.
use Rattle.std.specs.Prelude.{◌≡◌, ℕ, ◌+◌, ◌⊎◌, List, [], ◌∷◌, Vec, Box, string_bytes}
use Rattle.std.specs.declared.alloc.Global.{Global}
use Rattle.postcard_schema.specs.declared.schema.Named.{Named}
use Rattle.postcard_schema.specs.declared.schema.Schema.{Schema}
use Rattle.postcard_schema.specs.declared.schema.Schema.TheVariants as schemas
use Rattle.postcard_schema.specs.Meaning.{MessageType, entry_of, type_of}
use Rattle.postcard_explain.specs.declared.line.Label.{Label}
use Rattle.postcard_explain.specs.declared.line.Label.TheVariants.{Whole, Field, Part, Element}
use Rattle.postcard_explain.specs.declared.row.Item.{Item as ItemHere}
use Rattle.postcard_explain.specs.declared.row.Item.TheVariants as items
use Rattle.postcard_explain.specs.declared.row.Row.{Row as RowHere}
use Rattle.postcard_explain.specs.declared.row.Row.TheVariants as rows

-- A label as a plain value: a name is its text, and not a place in memory.
pub data PlainLabel : Type 0 where
  whole : PlainLabel
  at_field : List ℕ → PlainLabel
  at_part : ℕ → PlainLabel
  at_element : ℕ → PlainLabel

-- The label that a value of the program stands for.
abbrev pub plain_label : Label → PlainLabel
plain_label Whole = whole
plain_label (Field name) = at_field name.now
plain_label (Part i) = at_part i
plain_label (Element i) = at_element i

-- Parts in a row: what each is called, and its schema.
abbrev pub Row : Type 0
Row = List (PlainLabel × Schema)

-- The parts of a tuple from number i on.
abbrev pub numbered : ℕ → List Schema → Row
numbered i [] = []
numbered i (s ∷ ss) = (at_part i, s) ∷ numbered (i + 1) ss

-- The fields of a struct.
abbrev pub named : List (Named Schema) → Row
named [] = []
named (f ∷ fs) = (at_field (string_bytes f.name), f.content) ∷ named fs

-- The key and the value of an entry of a map.
abbrev pub entry_row : Schema → Schema → Row
entry_row key value = (at_part 0, key) ∷ (at_part 1, value) ∷ []

-- The schemas of parts.
abbrev pub schemas_of : Row → List Schema
schemas_of [] = []
schemas_of (p ∷ ps) = p.1 ∷ schemas_of ps

-- A value of the schema has these parts: it is a tuple or a struct.
abbrev pub HasParts : Schema → Row → Type 0
HasParts s row =
    ((v : Vec Schema Global) × (s ≡ schemas.Tuple v) × (row ≡ numbered 0 v.items))
    ⊎ ((v : Vec (Named Schema) Global) × (s ≡ schemas.Struct v) × (row ≡ named v.items))

-- The items of a list, an array or a map: values of a schema, or entries.
pub data Item : Type 0 where
  value : Schema → Item
  entry : Schema → Schema → Item

-- The type of each.
abbrev pub item_type : Item → MessageType
item_type (value s) = type_of s
item_type (entry k v) = entry_of (type_of k) (type_of v)

-- A value of the schema is a list of these: it is a list or a map.
abbrev pub HasItems : Schema → Item → Type 0
HasItems s item =
    ((b : Box Schema Global) × (s ≡ schemas.Seq b) × (item ≡ value b.value))
    ⊎ ((k : Box Schema Global) × (v : Box Schema Global) × (s ≡ schemas.Map k v) × (item ≡ entry k.value v.value))

-- The items and the rows of the code.
abbrev pub item_of : ItemHere → Item
item_of (items.Value s) = value s.now
item_of (items.Entry k v) = entry k.now v.now

-- The parts of a row, with their names or numbers.
abbrev pub parts_of : RowHere → Row
parts_of (rows.Tuple v) = numbered 0 v.now.items
parts_of (rows.Struct v) = named v.now.items
parts_of (rows.Entry k v) = entry_row k.now v.now

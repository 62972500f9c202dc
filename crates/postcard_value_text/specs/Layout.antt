-- Types with the names of their fields and variants.
use Rattle.std.specs.Prelude.{ℕ, Bool, true, false, List, [], ◌∷◌, map, string_bytes, box_value}
use Rattle.postcard_schema.specs.declared.leaf.Leaf.{Leaf}
use Rattle.postcard_schema.specs.declared.schema.Named.{Named}
use Rattle.postcard_schema.specs.declared.schema.Schema.{Schema, fold-Schema}
use Rattle.postcard_schema.specs.declared.schema.Schema.TheOpen.{Schema-F}

mutual
  -- A type with the names of its fields and variants, without the count of an array.
  pub data Layout : Type 0 where
    leaf : Leaf → Layout
    option : Layout → Layout
    list : Layout → Layout
    mapping : Layout → Layout → Layout
    array : Layout → Layout
    tuple : Layouts → Layout
    structure : Fields → Layout
    choice : Fields → Layout

  pub data Layouts : Type 0 where
    no_layouts : Layouts
    then_layout : Layout → Layouts → Layouts

  -- Fields or variants: each a name and a layout.
  pub data Fields : Type 0 where
    no_fields : Fields
    then_field : List ℕ → Layout → Fields → Fields

-- The layouts of a list, in the same order.
abbrev pub layout_row : List Layout → Layouts
layout_row [] = no_layouts
layout_row (x ∷ xs) = then_layout x (layout_row xs)

-- The names of a list and their layouts, in the same order.
abbrev pub field_row : List (Named Layout) → Fields
field_row [] = no_fields
field_row (n ∷ ns) = then_field (string_bytes n.name) n.content (field_row ns)

-- One step of the fold `layout_of`: the layout of a schema whose parts are already layouts.
abbrev pub layout_step : Schema-F Layout → Layout
layout_step (Schema-F.Leaf l) = leaf l
layout_step (Schema-F.Option x) = option (box_value x)
layout_step (Schema-F.Seq x) = list (box_value x)
layout_step (Schema-F.Map k v) = mapping (box_value k) (box_value v)
layout_step (Schema-F.Array x n) = array (box_value x)
layout_step (Schema-F.Tuple v) = tuple (layout_row v.items)
layout_step (Schema-F.Struct v) = structure (field_row v.items)
layout_step (Schema-F.Enum v) = choice (field_row v.items)

-- The layout of a schema.
abbrev pub layout_of : Schema → Layout
layout_of = fold-Schema Layout layout_step

-- The layouts of a list of schemas, in the same order.
abbrev pub layouts_of : List Schema → Layouts
layouts_of ss = layout_row (map layout_of ss)

-- The names of fields or variants and their layouts, in the same order.
abbrev pub fields_of : List (Named Schema) → Fields
fields_of [] = no_fields
fields_of (n ∷ ns) = then_field (string_bytes n.name) (layout_of n.content) (fields_of ns)

-- Whether a type is the unit.
abbrev pub is_unit : Layout → Bool
is_unit (tuple no_layouts) = true
is_unit x = false

-- Whether the text of a type's values has brackets of its own, so that none are added after a variant's name.
abbrev pub has_brackets : Layout → Bool
has_brackets (tuple xs) = true
has_brackets (structure fs) = true
has_brackets x = false

-- A schema as a plain value, without places in memory: its type, with the text of each name.
use Rattle.std.specs.Prelude.{ℕ, List, [], ◌∷◌, map, string_bytes, box_value}
use Rattle.postcard_schema.specs.Meaning.{MessageType, MessageTypes, leaf, option, seq, array, group, choice, no_types, then_type, entry_of}
use Rattle.postcard_schema.specs.declared.leaf.Leaf.{Leaf}
use Rattle.postcard_schema.specs.declared.schema.Named.{Named}
use Rattle.postcard_schema.specs.declared.schema.Schema.{Schema, fold-Schema}
use Rattle.postcard_schema.specs.declared.schema.Schema.TheOpen.{Schema-F}

mutual
  pub data View : Type 0 where
    leaf_view : Leaf → View
    option_view : View → View
    seq_view : View → View
    map_view : View → View → View
    array_view : ℕ → View → View
    tuple_view : Views → View
    struct_view : NamedViews → View
    enum_view : NamedViews → View

  pub data Views : Type 0 where
    no_views : Views
    then_view : View → Views → Views

  pub data NamedViews : Type 0 where
    no_names : NamedViews
    then_name : List ℕ → View → NamedViews → NamedViews

-- The views of a list, in the same order.
abbrev pub views_of : List View → Views
views_of [] = no_views
views_of (v ∷ vs) = then_view v (views_of vs)

-- The names of a list, each with the view that it names, in the same order.
abbrev pub named_of : List (List ℕ × View) → NamedViews
named_of [] = no_names
named_of (n ∷ ns) = then_name n.0 n.1 (named_of ns)

-- A name's text, and the view of the type that it names.
abbrev pub named : {A B : Type 0} → (A → B) → Named A → List ℕ × B
named see n = (string_bytes n.name, see n.content)

-- One step of the fold `view`.
abbrev pub view_step : Schema-F View → View
view_step (Schema-F.Leaf l) = leaf_view l
view_step (Schema-F.Option v) = option_view (box_value v)
view_step (Schema-F.Seq v) = seq_view (box_value v)
view_step (Schema-F.Map key value) = map_view (box_value key) (box_value value)
view_step (Schema-F.Array v n) = array_view n (box_value v)
view_step (Schema-F.Tuple v) = tuple_view (views_of v.items)
view_step (Schema-F.Struct v) = struct_view (named_of (map (named (λ view. view)) v.items))
view_step (Schema-F.Enum v) = enum_view (named_of (map (named (λ view. view)) v.items))

-- The view of a schema.
abbrev pub view : Schema → View
view = fold-Schema View view_step

-- The views of schemas, in order.
abbrev pub views : List Schema → Views
views ss = views_of (map view ss)

-- The names of fields or variants, each with the view of its type.
abbrev pub named_views : List (Named Schema) → NamedViews
named_views ns = named_of (map (named view) ns)

-- The type of a view: the view without names.
abbrev mutual
  pub message_type : View → MessageType
  message_type (leaf_view l) = leaf l
  message_type (option_view v) = option (message_type v)
  message_type (seq_view v) = seq (message_type v)
  message_type (map_view k v) = seq (entry_of (message_type k) (message_type v))
  message_type (array_view n v) = array n (message_type v)
  message_type (tuple_view vs) = group (message_types vs)
  message_type (struct_view ns) = group (held_types ns)
  message_type (enum_view ns) = choice (held_types ns)

  pub message_types : Views → MessageTypes
  message_types no_views = no_types
  message_types (then_view v vs) = then_type (message_type v) (message_types vs)

  pub held_types : NamedViews → MessageTypes
  held_types no_names = no_types
  held_types (then_name name v ns) = then_type (message_type v) (held_types ns)

-- The text of a type with names, without blanks. It is a type expression, if the type has one. An enum without variants has the text `(|)`,
-- and a struct without fields has the text `{}`. Neither is an expression.
use Rattle.std.specs.Prelude.{ℕ, List, ◌++◌, codes}
use Rattle.std.specs.Fmt.{decimal}
use Rattle.postcard_schema.specs.Leaves.{leaf_name}
use Rattle.postcard_schema.specs.Views.{View, Views, NamedViews, leaf_view, option_view, seq_view, map_view, array_view, tuple_view, struct_view, enum_view, no_views, then_view, no_names, then_name}

abbrev mutual
  pub named_text : View → List ℕ
  named_text (leaf_view l) = leaf_name l
  named_text (option_view v) = codes "Option<" ++ (named_text v ++ codes ">")
  named_text (seq_view v) = codes "[" ++ (named_text v ++ codes "]")
  named_text (map_view k v) = codes "{" ++ (named_text k ++ (codes "=>" ++ (named_text v ++ codes "}")))
  named_text (array_view n v) = codes "[" ++ (named_text v ++ (codes ";" ++ (decimal n ++ codes "]")))
  named_text (tuple_view vs) = codes "(" ++ named_parts_text vs
  named_text (struct_view ns) = codes "{" ++ named_fields_text ns
  named_text (enum_view no_names) = codes "(|)"
  named_text (enum_view (then_name name v ns)) = codes "(" ++ named_variants_text (then_name name v ns)

  -- The parts of a tuple, each with a `,` after it, and the `)`.
  pub named_parts_text : Views → List ℕ
  named_parts_text no_views = codes ")"
  named_parts_text (then_view v vs) = named_text v ++ (codes "," ++ named_parts_text vs)

  -- The fields of a struct, each as `name:T,`, and the `}`.
  pub named_fields_text : NamedViews → List ℕ
  named_fields_text no_names = codes "}"
  named_fields_text (then_name name v ns) = name ++ (codes ":" ++ (named_text v ++ (codes "," ++ named_fields_text ns)))

  -- The variants of an enum, each as `|Name(T)`, and a `)`.
  pub named_variants_text : NamedViews → List ℕ
  named_variants_text no_names = codes ")"
  named_variants_text (then_name name v ns) = codes "|" ++ (name ++ (codes "(" ++ (named_text v ++ (codes ")" ++ named_variants_text ns))))

-- Nodes that are pushed one after another: a node, and then those of its parts.
use Rattle.std.proofs.Common.{◌≡◌, ℕ, List, [], ◌∷◌, ◌++◌, Result, Ok, Err, OnOk, Vec, map, sym, ap, ◌∙◌, append_assoc}
use Rattle.std.specs.declared.alloc.Global.{Global}
use Rattle.std.proofs.lemmas.List.{length-map}
use Rattle.postcard_schema.proofs.ViewLemmas.{view_struct, view_enum}
use Rattle.postcard_schema.specs.Meaning.{contents}
use Rattle.postcard_schema.specs.Views.{named, view}
use Rattle.postcard_schema.specs.declared.schema.Named.{Named}
use Rattle.postcard_schema.specs.declared.schema.Schema.{Schema}
use Rattle.postcard_schema.specs.declared.schema.Schema.TheVariants as schemas
use Rattle.postcard_schema_message.specs.Nodes.{NodeView, enum_node, name_text, preorder, preorder_all, struct_node, tuple_node}
use Rattle.postcard_schema_message.proofs.Made.{enum_preorder, field_names, field_views, firsts, struct_preorder, tuple_preorder}
use Rattle.postcard_schema.proofs.ViewLemmas.{view_tuple}

-- The node n, and then the nodes xs, are the nodes ys.
pub with_parts : {T E : Type 0} (r : Result T E) (a b c xs ys : List NodeView) (n : NodeView) → n ∷ xs ≡ ys → b ≡ a ++ n ∷ [] → OnOk r (c ≡ b ++ xs) → OnOk r (c ≡ a ++ ys)
with_parts (Ok x) a b c xs ys n e p q = q ∙ ap (λ m. m ++ xs) p ∙ append_assoc a (n ∷ []) xs ∙ ap (λ m. a ++ m) e
with_parts (Err y) a b c xs ys n e p q = tt

pub tuple_nodes : (s : Schema) (v : Vec Schema Global) (n : ℕ) → s ≡ schemas.Tuple v → n ≡ v.len → tuple_node n ∷ preorder_all (map view v.items) ≡ preorder (view s)
tuple_nodes s v n is long =
    ap (λ m. tuple_node m ∷ preorder_all (map view v.items)) (long ∙ v.ok.0 ∙ sym (length-map v.items view)) ∙ sym (tuple_preorder (map view v.items))
    ∙ ap preorder (sym (view_tuple v)) ∙ ap (λ z. preorder (view z)) (sym is)

pub struct_nodes : (s : Schema) (v : Vec (Named Schema) Global) (names : List (List ℕ)) → s ≡ schemas.Struct v → names ≡ map name_text v.items
    → struct_node names ∷ preorder_all (map view (contents v.items)) ≡ preorder (view s)
struct_nodes s v names is same =
    ap (λ ns. struct_node ns ∷ preorder_all (map view (contents v.items))) (same ∙ sym (field_names v.items))
    ∙ ap (λ vs. struct_node (firsts (map (named view) v.items)) ∷ preorder_all vs) (sym (field_views v.items))
    ∙ sym (struct_preorder (map (named view) v.items)) ∙ ap preorder (sym (view_struct v)) ∙ ap (λ z. preorder (view z)) (sym is)

pub enum_nodes : (s : Schema) (v : Vec (Named Schema) Global) (names : List (List ℕ)) → s ≡ schemas.Enum v → names ≡ map name_text v.items
    → enum_node names ∷ preorder_all (map view (contents v.items)) ≡ preorder (view s)
enum_nodes s v names is same =
    ap (λ ns. enum_node ns ∷ preorder_all (map view (contents v.items))) (same ∙ sym (field_names v.items))
    ∙ ap (λ vs. enum_node (firsts (map (named view) v.items)) ∷ preorder_all vs) (sym (field_views v.items))
    ∙ sym (enum_preorder (map (named view) v.items)) ∙ ap preorder (sym (view_enum v)) ∙ ap (λ z. preorder (view z)) (sym is)

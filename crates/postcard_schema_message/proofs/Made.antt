-- The nodes, the depth and the bound of a schema that is made of a node and its parts.
use Rattle.std.proofs.Common.{◌≡◌, ℕ, ◌+◌, max, List, [], ◌∷◌, ◌++◌, length, map, refl, sym, ap, ◌∙◌, append-nil, arith}
use Rattle.postcard_schema.specs.Bounds.{AllElementsHaveBytes, greatest_depth}
use Rattle.postcard_schema.specs.Meaning.{contents}
use Rattle.postcard_schema.specs.Views.{View, named, named_of, struct_view, enum_view, tuple_view, view, views_of}
use Rattle.postcard_schema.specs.declared.schema.Named.{Named}
use Rattle.postcard_schema.specs.declared.schema.Schema.{Schema}
use Rattle.postcard_schema_message.specs.Nodes.{NodeView, leaf_node, option_node, seq_node, map_node, array_node, tuple_node, struct_node, enum_node, arity, held_preorder, levels, listed, name_text, names, parts_preorder, preorder, preorder_all}
use Rattle.postcard_schema_message.specs.Bounded.{IsFull, view_depth}
use Rattle.postcard_schema.specs.Views.{held_types, message_types}
use Rattle.postcard_schema_message.specs.Making.{Each, greatest, make, paired}

-- ---- Parts in a row

listed_length : (vs : List View) → length (listed (views_of vs)) ≡ length vs
listed_length [] = refl
listed_length (v ∷ vs) = let more = listed_length vs in omega (arith, more)

row_preorder : (vs : List View) → parts_preorder (views_of vs) ≡ preorder_all vs
row_preorder [] = refl
row_preorder (v ∷ vs) = ap (λ ns. preorder v ++ ns) (row_preorder vs)

pub tuple_preorder : (vs : List View) → preorder (tuple_view (views_of vs)) ≡ tuple_node (length vs) ∷ preorder_all vs
tuple_preorder vs = ap (λ n. tuple_node n ∷ parts_preorder (views_of vs)) (listed_length vs) ∙ ap (λ ns. tuple_node (length vs) ∷ ns) (row_preorder vs)

row_depth : (vs : List View) → greatest_depth (message_types (views_of vs)) ≡ greatest vs
row_depth [] = refl
row_depth (v ∷ vs) = ap (max (view_depth v)) (row_depth vs)

pub row_full : (vs : List View) → Each IsFull vs → AllElementsHaveBytes (message_types (views_of vs))
row_full [] full = tt
row_full (v ∷ vs) full = (full.0, row_full vs full.1)

-- ---- Names with what has them

abbrev pub firsts : List (List ℕ × View) → List (List ℕ)
firsts [] = []
firsts (p ∷ ps) = p.0 ∷ firsts ps

abbrev pub seconds : List (List ℕ × View) → List View
seconds [] = []
seconds (p ∷ ps) = p.1 ∷ seconds ps

named_names : (ps : List (List ℕ × View)) → names (named_of ps) ≡ firsts ps
named_names [] = refl
named_names (p ∷ ps) = ap (λ ns. p.0 ∷ ns) (named_names ps)

named_preorder : (ps : List (List ℕ × View)) → held_preorder (named_of ps) ≡ preorder_all (seconds ps)
named_preorder [] = refl
named_preorder (p ∷ ps) = ap (λ ns. preorder p.1 ++ ns) (named_preorder ps)

pub struct_preorder : (ps : List (List ℕ × View)) → preorder (struct_view (named_of ps)) ≡ struct_node (firsts ps) ∷ preorder_all (seconds ps)
struct_preorder ps = ap (λ ns. struct_node ns ∷ held_preorder (named_of ps)) (named_names ps) ∙ ap (λ ns. struct_node (firsts ps) ∷ ns) (named_preorder ps)

pub enum_preorder : (ps : List (List ℕ × View)) → preorder (enum_view (named_of ps)) ≡ enum_node (firsts ps) ∷ preorder_all (seconds ps)
enum_preorder ps = ap (λ ns. enum_node ns ∷ held_preorder (named_of ps)) (named_names ps) ∙ ap (λ ns. enum_node (firsts ps) ∷ ns) (named_preorder ps)

named_depth : (ps : List (List ℕ × View)) → greatest_depth (held_types (named_of ps)) ≡ greatest (seconds ps)
named_depth [] = refl
named_depth (p ∷ ps) = ap (max (view_depth p.1)) (named_depth ps)

pub named_full : (ps : List (List ℕ × View)) → Each IsFull (seconds ps) → AllElementsHaveBytes (held_types (named_of ps))
named_full [] full = tt
named_full (p ∷ ps) full = (full.0, named_full ps full.1)

paired_names : (ns : List (List ℕ)) (vs : List View) → length vs ≡ length ns → firsts (paired ns vs) ≡ ns
paired_names [] vs long = refl
paired_names (n ∷ ns) [] long = absurd (omega (arith, long))
paired_names (n ∷ ns) (v ∷ vs) long = ap (λ ms. n ∷ ms) (paired_names ns vs (omega (arith, long)))

pub paired_held : (ns : List (List ℕ)) (vs : List View) → length vs ≡ length ns → seconds (paired ns vs) ≡ vs
paired_held [] [] long = refl
paired_held [] (v ∷ vs) long = absurd (omega (arith, long))
paired_held (n ∷ ns) [] long = absurd (omega (arith, long))
paired_held (n ∷ ns) (v ∷ vs) long = ap (λ us. v ∷ us) (paired_held ns vs (omega (arith, long)))

-- The names of fields or variants, and the views of their contents.
pub field_names : (ns : List (Named Schema)) → firsts (map (named view) ns) ≡ map name_text ns
field_names [] = refl
field_names (n ∷ ns) = ap (λ ms. name_text n ∷ ms) (field_names ns)

pub field_views : (ns : List (Named Schema)) → seconds (map (named view) ns) ≡ map view (contents ns)
field_views [] = refl
field_views (n ∷ ns) = ap (λ vs. view n.content ∷ vs) (field_views ns)

-- ---- A node and its parts

pub made_preorder : (n : NodeView) (vs : List View) → length vs ≡ arity n → preorder (make n vs) ≡ n ∷ preorder_all vs
made_preorder (leaf_node l) [] long = refl
made_preorder option_node (v ∷ []) long = ap (λ ns. option_node ∷ ns) (sym (append-nil (preorder v)))
made_preorder seq_node (v ∷ []) long = ap (λ ns. seq_node ∷ ns) (sym (append-nil (preorder v)))
made_preorder map_node (k ∷ v ∷ []) long = ap (λ ns. map_node ∷ (preorder k ++ ns)) (sym (append-nil (preorder v)))
made_preorder (array_node n) (v ∷ []) long = ap (λ ns. array_node n ∷ ns) (sym (append-nil (preorder v)))
made_preorder (tuple_node n) vs long = tuple_preorder vs ∙ ap (λ m. tuple_node m ∷ preorder_all vs) long
made_preorder (struct_node ns) vs long =
    struct_preorder (paired ns vs) ∙ ap (λ ms. struct_node ms ∷ preorder_all (seconds (paired ns vs))) (paired_names ns vs long)
    ∙ ap (λ us. struct_node ns ∷ preorder_all us) (paired_held ns vs long)
made_preorder (enum_node ns) vs long =
    enum_preorder (paired ns vs) ∙ ap (λ ms. enum_node ms ∷ preorder_all (seconds (paired ns vs))) (paired_names ns vs long)
    ∙ ap (λ us. enum_node ns ∷ preorder_all us) (paired_held ns vs long)
made_preorder n vs long = absurd (omega (arith, long))

pub made_depth : (n : NodeView) (vs : List View) → length vs ≡ arity n → view_depth (make n vs) ≡ greatest vs + levels n
made_depth (leaf_node l) [] long = refl
made_depth option_node (v ∷ []) long = omega arith
made_depth seq_node (v ∷ []) long = omega arith
made_depth map_node (k ∷ v ∷ []) long = omega arith
made_depth (array_node n) (v ∷ []) long = omega arith
made_depth (tuple_node n) vs long = ap (λ m. m + 1) (row_depth vs)
made_depth (struct_node ns) vs long = ap (λ m. m + 1) (named_depth (paired ns vs) ∙ ap greatest (paired_held ns vs long))
made_depth (enum_node ns) vs long = ap (λ m. m + 1) (named_depth (paired ns vs) ∙ ap greatest (paired_held ns vs long))
made_depth n vs long = absurd (omega (arith, long))

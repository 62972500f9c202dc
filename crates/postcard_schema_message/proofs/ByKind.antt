-- What each kind of node makes of its parts.
use Rattle.std.proofs.Common.{◌≡◌, ℕ, ◌⊎◌, true, false, Box, List, [], ◌∷◌, length, map, Result, Ok, Err, Vec, sym, ap, subst, ◌∙◌, inl, inr}
use Rattle.std.specs.Prelude.{IsErrAnd}
use Rattle.std.specs.declared.alloc.Global.{Global}
use Rattle.postcard_schema.proofs.ViewLemmas.{view_struct, view_enum}
use Rattle.postcard_schema.specs.Meaning.{entry_of, has_bytes, type_of}
use Rattle.postcard_schema.specs.Views.{View, enum_view, named, named_of, struct_view, view}
use Rattle.postcard_schema.specs.declared.leaf.Leaf.{Leaf}
use Rattle.postcard_schema.specs.declared.schema.Named.{Named}
use Rattle.postcard_schema.specs.declared.schema.Schema.{Schema}
use Rattle.postcard_schema.specs.declared.schema.Schema.TheVariants as schemas
use Rattle.postcard_schema_message.specs.declared.error.Problem.{Problem}
use Rattle.postcard_schema_message.specs.declared.error.Problem.TheVariants.{ElementWithoutBytes, OutOfMemory}
use Rattle.postcard_schema_message.specs.Nodes.{NodeView, leaf_node, option_node, seq_node, map_node, array_node, tuple_node, struct_node, enum_node}
use Rattle.postcard_schema_message.specs.Bounded.{HasEmptyElements, IsFull}
use Rattle.postcard_schema.specs.Views.{message_type}
use Rattle.postcard_schema_message.specs.Making.{Each, IsMade, make, paired}
use Rattle.postcard_schema_message.proofs.Made.{named_full, paired_held, row_full}
use Rattle.postcard_schema.proofs.Typed.{typed}
use Rattle.postcard_schema.proofs.ViewLemmas.{view_array, view_leaf, view_map, view_option, view_seq, view_tuple}

-- Why no schema is made.
abbrev pub IsUnmade : Problem → NodeView → List View → Type 0
IsUnmade problem n vs = (problem ≡ OutOfMemory) ⊎ ((problem ≡ ElementWithoutBytes) × HasEmptyElements (make n vs))

-- If the result is an error, and its problem is why no schema is made, `IsMade` holds of the result.
pub unmade : (n : NodeView) (vs : List View) (r : Result Schema Problem) (e : Problem) → IsErrAnd r (λ y. y ≡ e) → IsUnmade e n vs → IsMade n vs r
unmade n vs (Ok x) e h k = absurd h
unmade n vs (Err y) e h k = record { made = tt; full = λ f. tt; refused = subst (λ z. IsUnmade z n vs) (sym h) k }

pub leaf_made : (l : Leaf) (vs : List View) → IsMade (leaf_node l) vs (Ok (schemas.Leaf l))
leaf_made l vs = record { made = view_leaf l; full = λ f. tt; refused = tt }

pub option_made : (b : Box Schema Global) (ss : List Schema) → ss ≡ b.value ∷ [] → IsMade option_node (map view ss) (Ok (schemas.Option b))
option_made b ss e = rw e record { made = view_option b; full = λ f. f.0; refused = tt }

pub seq_made : (b : Box Schema Global) (ss : List Schema) → ss ≡ b.value ∷ [] → has_bytes (type_of b.value) ≡ true → IsMade seq_node (map view ss) (Ok (schemas.Seq b))
seq_made b ss e some = rw e record { made = view_seq b; full = λ f. (ap has_bytes (typed b.value) ∙ some, f.0); refused = tt }

pub array_made : (b : Box Schema Global) (n : ℕ) (ss : List Schema) → ss ≡ b.value ∷ [] → has_bytes (type_of b.value) ≡ true
    → IsMade (array_node n) (map view ss) (Ok (schemas.Array b n))
array_made b n ss e some = rw e record { made = view_array b n; full = λ f. (ap has_bytes (typed b.value) ∙ some, f.0); refused = tt }

pub seq_empty : (s : Schema) (ss : List Schema) → ss ≡ s ∷ [] → has_bytes (type_of s) ≡ false → HasEmptyElements (make seq_node (map view ss))
seq_empty s ss e none = rw e (ap has_bytes (typed s) ∙ none)

pub array_empty : (n : ℕ) (s : Schema) (ss : List Schema) → ss ≡ s ∷ [] → has_bytes (type_of s) ≡ false → HasEmptyElements (make (array_node n) (map view ss))
array_empty n s ss e none = rw e (ap has_bytes (typed s) ∙ none)

pub map_made : (k v : Box Schema Global) (ss : List Schema) → ss ≡ k.value ∷ v.value ∷ [] → has_bytes (entry_of (type_of k.value) (type_of v.value)) ≡ true
    → IsMade map_node (map view ss) (Ok (schemas.Map k v))
map_made k v ss e some = rw e record {
  made = view_map k v;
  full = λ f. (ap (λ t. has_bytes (entry_of t (message_type (view v.value)))) (typed k.value) ∙ ap (λ t. has_bytes (entry_of (type_of k.value) t)) (typed v.value) ∙ some, (f.0, (f.1.0, tt)));
  refused = tt;
}

pub map_empty : (s t : Schema) (ss : List Schema) → ss ≡ s ∷ t ∷ [] → has_bytes (entry_of (type_of s) (type_of t)) ≡ false → HasEmptyElements (make map_node (map view ss))
map_empty s t ss e none = rw e (ap (λ m. has_bytes (entry_of m (message_type (view t)))) (typed s) ∙ ap (λ m. has_bytes (entry_of (type_of s) m)) (typed t) ∙ none)

pub tuple_made : (n : ℕ) (v : Vec Schema Global) → IsMade (tuple_node n) (map view v.items) (Ok (schemas.Tuple v))
tuple_made n v = record { made = view_tuple v; full = λ f. row_full (map view v.items) f; refused = tt }

pub struct_made : (names : List (List ℕ)) (vs : List View) (v : Vec (Named Schema) Global) → length vs ≡ length names → map (named view) v.items ≡ paired names vs
    → IsMade (struct_node names) vs (Ok (schemas.Struct v))
struct_made names vs v long e = record {
  made = view_struct v ∙ ap (λ ps. struct_view (named_of ps)) e;
  full = λ f. named_full (paired names vs) (subst (Each IsFull) (sym (paired_held names vs long)) f);
  refused = tt;
}

pub enum_made : (names : List (List ℕ)) (vs : List View) (v : Vec (Named Schema) Global) → length vs ≡ length names → map (named view) v.items ≡ paired names vs
    → IsMade (enum_node names) vs (Ok (schemas.Enum v))
enum_made names vs v long e = record {
  made = view_enum v ∙ ap (λ ps. enum_view (named_of ps)) e;
  full = λ f. named_full (paired names vs) (subst (Each IsFull) (sym (paired_held names vs long)) f);
  refused = tt;
}

-- Why an element was refused.
abbrev pub IsRefusedElement : Problem → List Schema → Type 0
IsRefusedElement e ss = (e ≡ OutOfMemory) ⊎ ((part : Schema) × (e ≡ ElementWithoutBytes) × (ss ≡ part ∷ []) × (has_bytes (type_of part) ≡ false))

pub seq_unmade : (ss : List Schema) (r : Result Schema Problem) (e : Problem) → IsErrAnd r (λ y. y ≡ e) → IsRefusedElement e ss → IsMade seq_node (map view ss) r
seq_unmade ss r e h (inl memory) = unmade seq_node (map view ss) r e h (inl memory)
seq_unmade ss r e h (inr (part, is, one, none)) = unmade seq_node (map view ss) r e h (inr (is, seq_empty part ss one none))

pub array_unmade : (n : ℕ) (ss : List Schema) (r : Result Schema Problem) (e : Problem) → IsErrAnd r (λ y. y ≡ e) → IsRefusedElement e ss
    → IsMade (array_node n) (map view ss) r
array_unmade n ss r e h (inl memory) = unmade (array_node n) (map view ss) r e h (inl memory)
array_unmade n ss r e h (inr (part, is, one, none)) = unmade (array_node n) (map view ss) r e h (inr (is, array_empty n part ss one none))

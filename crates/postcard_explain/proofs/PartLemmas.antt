-- Lemmas on the parts and the items of a value: their types, their depths, and each by its index.
use Rattle.std.proofs.Common.{◌≡◌, ℕ, zero, suc, ◌+◌, ◌<◌, ◌≤◌, List, [], ◌∷◌, ◌++◌, length, get_or, refl, sym, ap, subst, ◌∙◌, arith, inl, inr, append-nil}
use Rattle.std.specs.Prelude.{Vec, string_bytes}
use Rattle.std.specs.declared.alloc.Global.{Global}
use Rattle.postcard_schema.specs.declared.schema.Named.{Named}
use Rattle.postcard_schema.specs.declared.schema.Schema.{Schema}
use Rattle.postcard_schema.specs.declared.schema.Schema.TheVariants as schemas
use Rattle.postcard_schema.specs.Bounds.{depth, greatest_depth}
use Rattle.postcard_schema.specs.Lemmas.{type_of_enum, type_of_map, type_of_seq, type_of_struct, type_of_tuple}
use Rattle.postcard_schema.specs.Meaning.{MessageType, contents, entry_of, type_of, types_of, seq, group}
use Rattle.postcard_wire.specs.Tree.{NoTrees, Then}
use Rattle.postcard_wire.specs.Spelling.{Spells, SpellsAll}
use Rattle.postcard_value.specs.Fronts.{FrontSpells}
use Rattle.postcard_explain.specs.Parts.{PlainLabel, at_field, at_part, Row, numbered, named, schemas_of, HasParts, Item, item_type, HasItems}

-- ---- schemas and types

-- The schemas of two rows, joined.
pub schemas_join : (ps qs : Row) → schemas_of (ps ++ qs) ≡ schemas_of ps ++ schemas_of qs
schemas_join [] qs = refl
schemas_join (p ∷ ps) qs = ap (λ ss. p.1 ∷ ss) (schemas_join ps qs)

-- Numbering the parts of a tuple keeps their schemas.
schemas_numbered : (i : ℕ) (ss : List Schema) → schemas_of (numbered i ss) ≡ ss
schemas_numbered i [] = refl
schemas_numbered i (s ∷ ss) = ap (λ xs. s ∷ xs) (schemas_numbered (i + 1) ss)

-- Naming the fields of a struct keeps their schemas.
schemas_named : (fs : List (Named Schema)) → schemas_of (named fs) ≡ contents fs
schemas_named [] = refl
schemas_named (f ∷ fs) = ap (λ xs. f.content ∷ xs) (schemas_named fs)

-- The type of a schema with parts is the group of their types.
pub parts_type : (s : Schema) (row : Row) → HasParts s row → type_of s ≡ group (types_of (schemas_of row))
parts_type s row (inl (v, is, same)) = rw (is, same, schemas_numbered 0 v.items) (type_of_tuple v)
parts_type s row (inr (v, is, same)) = rw (is, same, schemas_named v.items) (type_of_struct v)

-- The type of a schema with items is the list of the items' type.
pub items_type : (s : Schema) (item : Item) → HasItems s item → type_of s ≡ seq (item_type item)
items_type s item (inl (b, is, same)) = rw (is, same) (type_of_seq b)
items_type s item (inr (k, v, is, same)) = rw (is, same) (type_of_map k v)

-- ---- depths

-- How deep the parts of a row are nested, at most.
abbrev pub row_depth : Row → ℕ
row_depth row = greatest_depth (types_of (schemas_of row))

-- A part of a row is no deeper than the row.
pub part_depth : (row : Row) (i : ℕ) (label : PlainLabel) (s : Schema) → i < length row → (label, s) ≡ get_or row i (label, s)
    → depth (type_of s) ≤ row_depth row
part_depth [] i label s low e = absurd (omega (arith, low))
part_depth (p ∷ ps) zero label s low e =
    let same : depth (type_of s) ≡ depth (type_of p.1) = ap (λ (q : PlainLabel × Schema). depth (type_of q.1)) e in
    omega (arith, same)
part_depth (p ∷ ps) (suc i) label s low e = omega (arith, part_depth ps i label s (omega (arith, low)) e)

-- The parts of a schema are less deep than the schema.
pub parts_depth : (s : Schema) (row : Row) → HasParts s row → row_depth row < depth (type_of s)
parts_depth s row h = rw (parts_type s row h) (omega arith)

-- The contents of an enum are nested less deeply than the enum.
pub variants_depth : (s : Schema) (v : Vec (Named Schema) Global) → s ≡ schemas.Enum v → row_depth (named v.items) < depth (type_of s)
variants_depth s v is = rw (is, type_of_enum v, schemas_named v.items) (omega arith)

-- ---- parts by their index

-- Numbering keeps the number of parts.
pub length_numbered : (k : ℕ) (ss : List Schema) → length (numbered k ss) ≡ length ss
length_numbered k [] = refl
length_numbered k (s ∷ ss) = ap suc (length_numbered (k + 1) ss)

-- Naming keeps the number of fields.
pub length_named : (fs : List (Named Schema)) → length (named fs) ≡ length fs
length_named [] = refl
length_named (f ∷ fs) = ap suc (length_named fs)

-- A part of a tuple stands under its number.
pub numbered_at : (k : ℕ) (ss : List Schema) (i n : ℕ) (s : Schema) → n ≡ k + i → i < length ss → s ≡ get_or ss i s
    → (at_part n, s) ≡ get_or (numbered k ss) i (at_part n, s)
numbered_at k [] i n s is low e = absurd (omega (arith, low))
numbered_at k (x ∷ xs) zero n s is low e =
    let same : n ≡ k = omega (arith, is) in
    rw (same, ← e) refl
numbered_at k (x ∷ xs) (suc i) n s is low e = numbered_at (k + 1) xs i n s (omega (arith, is)) (omega (arith, low)) e

-- A field of a struct stands under its name.
pub named_at : (fs : List (Named Schema)) (i : ℕ) (f : Named Schema) (label : PlainLabel) → i < length fs → f ≡ get_or fs i f
    → label ≡ at_field (string_bytes f.name) → (label, f.content) ≡ get_or (named fs) i (label, f.content)
named_at [] i f label low e called = absurd (omega (arith, low))
named_at (x ∷ xs) zero f label low e called = rw called (ap (λ (n : Named Schema). (at_field (string_bytes n.name), n.content)) e)
named_at (x ∷ xs) (suc i) f label low e called = named_at xs i f label (omega (arith, low)) e called

-- ---- entries

-- What encodes an entry encodes its key, and then its value.
pub entry_cut : (k v : MessageType) (p : List ℕ) → FrontSpells (entry_of k v) p → (x y : List ℕ) × FrontSpells k x × FrontSpells v y × (p ≡ x ++ y)
entry_cut k v p (tree, (ts, is, (t, more, e, r, (u, none, d, q, end))), f) =
    let g : SpellsAll (Then t (Then u NoTrees)) p = rw (is, e, d, end) at f in
    let h = g.3 in
    let same : g.1 ≡ h.0 = h.4 ∙ ap (λ z. h.0 ++ z) h.3 ∙ append-nil h.0 in
    (g.0, g.1, (t, r, g.2), (u, q, subst (λ z. Spells u z) (sym same) h.2), g.4)

-- Lemmas on the layouts of schemas, and on the printers of schemas in a row.
use Rattle.std.proofs.Common.{◌≡◌, ℕ, zero, suc, ◌+◌, ◌<◌, true, false, List, [], ◌∷◌, map, length, take, get_or, Some, Box, Vec, string_bytes, refl, sym, ap, ◌∙◌, rules, arith}
use Rattle.std.specs.declared.alloc.Global.{Global}
use Rattle.std.proofs.lemmas.Grind.{common_steps}
use Rattle.std.specs.Fmt.{◌++?◌}
use Rattle.std.specs.Bool.{◌==◌}
use Rattle.std.proofs.Math.Dec.{eqb-suc-zero}
use Rattle.postcard_wire.specs.Tree.{Tree, NoTrees, Then, trees}
use Rattle.postcard_schema.specs.declared.leaf.Leaf.{Leaf}
use Rattle.postcard_schema.specs.declared.schema.Schema.{Schema, the_lemmas}
use Rattle.postcard_schema.specs.declared.schema.Schema.TheShapes.{former-Schema-Struct-0-at-2}
use Rattle.postcard_schema.specs.declared.schema.Schema.TheVariants as schemas
use Rattle.postcard_value_text.specs.{Named, no_types, types_of}
use Rattle.postcard_value_text.specs.Layout.{Layout, leaf, option, list, mapping, array, tuple, structure, choice, then_field, field_row, layout_of, layouts_of, fields_of, is_unit, has_brackets}
use Rattle.postcard_value_text.specs.Shown.{Printer, text, texts, field_text, field_texts, text_at, variant_text, tuple_end, lead, joined, each_by, enclosed, content_text}
use Rattle.postcard_value_text.proofs.Joined.{parts_more}

-- ---- layouts

pub layout_of_leaf : (l : Leaf) → layout_of (schemas.Leaf l) ≡ leaf l
layout_of_leaf l = search (rules, the_lemmas)

pub layout_of_option : (b : Box Schema Global) → layout_of (schemas.Option b) ≡ option (layout_of b.value)
layout_of_option b = search (rules, the_lemmas)

pub layout_of_seq : (b : Box Schema Global) → layout_of (schemas.Seq b) ≡ list (layout_of b.value)
layout_of_seq b = search (rules, the_lemmas)

pub layout_of_map : (k v : Box Schema Global) → layout_of (schemas.Map k v) ≡ mapping (layout_of k.value) (layout_of v.value)
layout_of_map k v = search (rules, the_lemmas)

pub layout_of_array : (b : Box Schema Global) (n : ℕ) → layout_of (schemas.Array b n) ≡ array (layout_of b.value)
layout_of_array b n = search (rules, the_lemmas)

pub layout_of_tuple : (v : Vec Schema Global) → layout_of (schemas.Tuple v) ≡ tuple (layouts_of v.items)
layout_of_tuple v = search (rules, the_lemmas)

named_layouts : (ns : List (Named Schema)) → field_row (map (former-Schema-Struct-0-at-2.map Schema Layout layout_of) ns) ≡ fields_of ns
named_layouts [] = refl
named_layouts (n ∷ ns) = ap (λ fs. then_field (string_bytes n.name) (layout_of n.content) fs) (named_layouts ns)

pub layout_of_struct : (v : Vec (Named Schema) Global) → layout_of (schemas.Struct v) ≡ structure (fields_of v.items)
layout_of_struct v = search (rules, the_lemmas, named_layouts)

pub layout_of_enum : (v : Vec (Named Schema) Global) → layout_of (schemas.Enum v) ≡ choice (fields_of v.items)
layout_of_enum v = search (rules, the_lemmas, named_layouts)

-- ---- printers

-- The printer of a schema, and of a field.
abbrev pub printer_of : Schema → Printer
printer_of s = text (layout_of s)

-- The printer of a field: its name, `: ` and its value.
abbrev pub field_printer : Named Schema → Printer
field_printer n = field_text (string_bytes n.name) (text (layout_of n.content))

texts_map : (ss : List Schema) → texts (layouts_of ss) ≡ map printer_of ss
texts_map [] = refl
texts_map (s ∷ ss) = ap (λ ps. text (layout_of s) ∷ ps) (texts_map ss)

field_texts_map : (ns : List (Named Schema)) → field_texts (fields_of ns) ≡ map field_printer ns
field_texts_map [] = refl
field_texts_map (n ∷ ns) = ap (λ ps. field_printer n ∷ ps) (field_texts_map ns)

-- The text of one part more is the text so far, what leads the part, and the part's text.
pub tuple_more : {X : Type 0} (b : List ℕ) (see : X → Tree) (ss : List Schema) (vs : List X) (i : ℕ) (s : Schema) (v : X) → i < length ss → i < length vs
    → s ≡ get_or ss i s → v ≡ get_or vs i v
    → joined b (each_by (texts (layouts_of ss)) (trees (map see (take (i + 1) vs)))) ≡ joined b (each_by (texts (layouts_of ss)) (trees (map see (take i vs)))) ++? (Some (lead i b) ++? printer_of s (see v))
tuple_more b see ss vs i s v few low is here = rw (texts_map ss) (parts_more b printer_of see ss vs i s v few low is here)

-- One field more in the text of a struct.
pub struct_more : {X : Type 0} (b : List ℕ) (see : X → Tree) (ns : List (Named Schema)) (vs : List X) (i : ℕ) (n : Named Schema) (v : X) → i < length ns → i < length vs
    → n ≡ get_or ns i n → v ≡ get_or vs i v
    → joined b (each_by (field_texts (fields_of ns)) (trees (map see (take (i + 1) vs)))) ≡ joined b (each_by (field_texts (fields_of ns)) (trees (map see (take i vs)))) ++? (Some (lead i b) ++? field_printer n (see v))
struct_more b see ns vs i n v few low is here = rw (field_texts_map ns) (parts_more b field_printer see ns vs i n v few low is here)

-- The trees of two values.
pub pair_trees : {X : Type 0} (see : X → Tree) (vs : List X) (u v : X) → length vs ≡ 2 → u ≡ get_or vs 0 u → v ≡ get_or vs 1 v → trees (map see vs) ≡ Then (see u) (Then (see v) NoTrees)
pair_trees see vs u v two first second =
    let pair : map see vs ≡ see u ∷ see v ∷ [] = grind (arith, common_steps, two, first, second) in
    ap trees pair

-- The printer of a variant is at its index.
pub variant_at : (ns : List (Named Schema)) (i : ℕ) (n : Named Schema) → i < length ns → n ≡ get_or ns i n
    → text_at (fields_of ns) i ≡ variant_text (string_bytes n.name) (layout_of n.content) (text (layout_of n.content))
variant_at [] i n low is = absurd (omega (arith, low))
variant_at (x ∷ xs) zero n low is = ap (λ z. variant_text (string_bytes z.name) (layout_of z.content) (text (layout_of z.content))) (sym is)
variant_at (x ∷ xs) (suc i) n low is = variant_at xs i n (omega (arith, low)) is

-- After a tuple of one part stands a `,`.
pub ends_one : (ss : List Schema) → length ss ≡ 1 → tuple_end (layouts_of ss) ≡ 44 ∷ 41 ∷ []
ends_one [] e = absurd (omega (arith, e))
ends_one (s ∷ []) e = refl
ends_one (s ∷ u ∷ ss) e = absurd (omega (arith, e))

-- A tuple ends with `)` alone, if it hasn't just one part.
pub ends_other : (ss : List Schema) → (length ss ≡ 1 → ⊥) → tuple_end (layouts_of ss) ≡ 41 ∷ []
ends_other [] e = refl
ends_other (s ∷ []) e = absurd (e refl)
ends_other (s ∷ u ∷ ss) e = refl

-- The text of a variant's content is the content's own text if that has brackets, and is else put in parentheses.
pub content_brackets : (x : Layout) (p : Printer) (t : Tree) → is_unit x ≡ false → has_brackets x ≡ true → content_text x p t ≡ p t
content_brackets x p t full own = rw (full, own) refl

-- A content that is neither the unit nor has brackets is printed in parentheses.
pub content_other : (x : Layout) (p : Printer) (t : Tree) → is_unit x ≡ false → has_brackets x ≡ false → content_text x p t ≡ enclosed (40 ∷ []) (p t) (41 ∷ [])
content_other x p t full other = rw (full, other) refl

-- A tuple without parts is the unit, and one with parts isn't.
pub is_nothing : (ss : List Schema) → (length ss == 0) ≡ is_unit (tuple (layouts_of ss))
is_nothing [] = refl
is_nothing (s ∷ ss) = eqb-suc-zero (length ss)

-- A tuple without parts has no types.
pub no_part : (ss : List Schema) → (length ss == 0) ≡ true → types_of ss ≡ no_types
no_part [] e = refl
no_part (s ∷ ss) e = cc (sym (eqb-suc-zero (length ss)) ∙ e)

-- Which lines explain the bytes of a value.
use Rattle.std.specs.Prelude.{◌≡◌, ℕ, ◌+◌, ◌-◌, ◌^◌, ◌<◌, ◌⊎◌, min, List, [], ◌∷◌, ◌++◌, length, get_or, Vec, Box, string_bytes}
use Rattle.std.specs.declared.alloc.Global.{Global}
use Rattle.postcard_wire.specs.Number.{SpellsNum}
use Rattle.postcard_de.specs.Front.{ReadsFront}
use Rattle.postcard_schema.specs.declared.leaf.Leaf.{Leaf}
use Rattle.postcard_schema.specs.declared.schema.Named.{Named}
use Rattle.postcard_schema.specs.declared.schema.Schema.{Schema}
use Rattle.postcard_schema.specs.declared.schema.Schema.TheVariants as schemas
use Rattle.postcard_schema.specs.Meaning.{type_of, reads}
use Rattle.postcard_value.specs.Fronts.{FrontSpells, SpellsEach}
use Rattle.postcard_value.specs.Tree.{IsTree}
use Rattle.postcard_value.specs.declared.value.Value.{Value as AValue}
use Rattle.postcard_explain.specs.declared.line.LineKind.{LineKind}
use Rattle.postcard_explain.specs.declared.line.LineKind.TheVariants.{Value, Absent, Present, Count, Variant, Parts, MoreElements, AfterValue}
use Rattle.postcard_explain.specs.declared.line.Line.{Line}
use Rattle.postcard_explain.specs.Parts.{PlainLabel, whole, at_element, plain_label, Row, HasParts, entry_row, Item, value, entry, item_type, HasItems}

-- The bytes of lines, joined in order.
abbrev pub bytes_of : List Line → List ℕ
bytes_of [] = []
bytes_of (line ∷ lines) = line.bytes.now ++ bytes_of lines

-- The depth of the parts of a value that has a line of its own.
abbrev pub deeper : ℕ → ℕ
deeper depth = min (depth + 1) (2 ^ 64 - 1)

-- The line has this depth and label.
abbrev pub IsAt : ℕ → PlainLabel → Line → Type 0
IsAt depth label line = (line.depth ≡ depth) × (plain_label line.label ≡ label)

-- The kind is this value of the schema.
abbrev pub IsValue : LineKind → Schema → AValue → Type 0
IsValue (Value r v) s w = (r.now ≡ s) × (v ≡ w)
IsValue _ s w = ⊥

-- The kind is the index and the name of a variant.
abbrev pub IsIndex : LineKind → ℕ → List ℕ → Type 0
IsIndex (Variant i r) j name = (i ≡ j) × (r.now ≡ name)
IsIndex _ j name = ⊥

-- The lines before the parts of a tuple, a struct, an array or an entry, and the depth of the parts. There is one line without bytes, but
-- none for the whole value.
abbrev pub Opens : ℕ → PlainLabel → ℕ → List Line → Type 0
Opens depth whole inner lines = (inner ≡ depth) × (lines ≡ [])
Opens depth label inner lines =
    (line : Line) × IsAt depth label line × (line.kind ≡ Parts) × (line.bytes.now ≡ []) × (inner ≡ deeper depth) × (lines ≡ line ∷ [])

mutual
  -- The lines explain a value of the schema at this depth and with this label. In each list at most `most` elements have lines of their
  -- own.
  pub data Explains (most : ℕ) : ℕ → PlainLabel → Schema → List Line → Type 0 where
    -- A value without parts.
    of_leaf : (depth : ℕ) (label : PlainLabel) (s : Schema) (line : Line) (l : Leaf) (v : AValue) → s ≡ schemas.Leaf l → IsAt depth label line
        → IsValue line.kind s v → ReadsFront (reads (type_of s)) IsTree line.bytes.now v [] → Explains most depth label s (line ∷ [])
    -- An option without a value, and one with a value.
    of_absent : (depth : ℕ) (label : PlainLabel) (s : Schema) (line : Line) (content : Box Schema Global) → s ≡ schemas.Option content
        → IsAt depth label line → line.kind ≡ Absent → line.bytes.now ≡ 0 ∷ [] → Explains most depth label s (line ∷ [])
    of_present : (depth : ℕ) (label : PlainLabel) (s : Schema) (line : Line) (content : Box Schema Global) (more : List Line)
        → s ≡ schemas.Option content → IsAt depth label line → line.kind ≡ Present → line.bytes.now ≡ 1 ∷ []
        → Explains most (deeper depth) whole content.value more → Explains most depth label s (line ∷ more)
    -- A list or a map, and an array.
    of_list : (depth : ℕ) (label : PlainLabel) (s : Schema) (line : Line) (item : Item) (n : ℕ) (more : List Line) → HasItems s item
        → IsAt depth label line → line.kind ≡ Count n → n < 2 ^ 64 → SpellsNum 64 n line.bytes.now
        → ExplainsElements most (deeper depth) item n more → Explains most depth label s (line ∷ more)
    of_array : (depth : ℕ) (label : PlainLabel) (s : Schema) (element : Box Schema Global) (n inner : ℕ) (head more : List Line)
        → s ≡ schemas.Array element n → Opens depth label inner head → ExplainsElements most inner (value element.value) n more
        → Explains most depth label s (head ++ more)
    -- A tuple or a struct.
    of_parts : (depth : ℕ) (label : PlainLabel) (s : Schema) (row : Row) (lines : List Line) → HasParts s row → ExplainsRow most depth label row lines
        → Explains most depth label s lines
    -- A variant of an enum.
    of_variant : (depth : ℕ) (label : PlainLabel) (s : Schema) (line : Line) (variants : Vec (Named Schema) Global) (i : ℕ) (x : Named Schema)
        (more : List Line) → s ≡ schemas.Enum variants → IsAt depth label line → i < length variants.items → x ≡ get_or variants.items i x
        → IsIndex line.kind i (string_bytes x.name) → i < 2 ^ 32 → SpellsNum 32 i line.bytes.now
        → Explains most (deeper depth) whole x.content more → Explains most depth label s (line ∷ more)

  -- The lines explain a value with these parts.
  pub data ExplainsRow (most : ℕ) : ℕ → PlainLabel → Row → List Line → Type 0 where
    of_row : (depth : ℕ) (label : PlainLabel) (row : Row) (inner : ℕ) (head more : List Line) → Opens depth label inner head
        → ExplainsParts most inner row more → ExplainsRow most depth label row (head ++ more)

  -- The lines explain a value of each part, in order.
  pub data ExplainsParts (most : ℕ) : ℕ → Row → List Line → Type 0 where
    no_parts : (depth : ℕ) → ExplainsParts most depth [] []
    one_part : (depth : ℕ) (row : Row) (label : PlainLabel) (s : Schema) (lines more : List Line) → ExplainsParts most depth row lines
        → Explains most depth label s more → ExplainsParts most depth (row ++ (label, s) ∷ []) (lines ++ more)

  -- The lines explain an item of a list. An entry is explained as a tuple of its key and its value.
  pub data ExplainsItem (most : ℕ) : ℕ → PlainLabel → Item → List Line → Type 0 where
    of_value : (depth : ℕ) (label : PlainLabel) (s : Schema) (lines : List Line) → Explains most depth label s lines
        → ExplainsItem most depth label (value s) lines
    of_entry : (depth : ℕ) (label : PlainLabel) (k v : Schema) (lines : List Line) → ExplainsRow most depth label (entry_row k v) lines
        → ExplainsItem most depth label (entry k v) lines

  -- The lines explain n items, each with its number. The first `most` have lines of their own. Those after them share one line.
  pub data ExplainsElements (most : ℕ) : ℕ → Item → ℕ → List Line → Type 0 where
    no_elements : (depth : ℕ) (item : Item) → ExplainsElements most depth item 0 []
    one_element : (depth : ℕ) (item : Item) (n : ℕ) (lines more : List Line) → n < most → ExplainsElements most depth item n lines
        → ExplainsItem most depth (at_element n) item more → ExplainsElements most depth item (n + 1) (lines ++ more)
    more_elements : (depth : ℕ) (item : Item) (n k : ℕ) (lines : List Line) (line : Line) → n ≡ most → 0 < k
        → ExplainsElements most depth item n lines → IsAt depth (at_element n) line → line.kind ≡ MoreElements k
        → SpellsEach (item_type item) k line.bytes.now → ExplainsElements most depth item (n + k) (lines ++ line ∷ [])

-- The lines are one for n elements with these bytes, or none if there are no elements.
abbrev pub IsMore : ℕ → PlainLabel → ℕ → List ℕ → List Line → Type 0
IsMore depth label n bytes lines =
    ((n ≡ 0) × (lines ≡ []))
    ⊎ ((line : Line) × (0 < n) × IsAt depth label line × (line.kind ≡ MoreElements n) × (line.bytes.now ≡ bytes) × (lines ≡ line ∷ []))

-- The same of items that the bytes encode.
abbrev pub ExplainsMore : ℕ → PlainLabel → Item → ℕ → List Line → Type 0
ExplainsMore depth label item n lines = IsMore depth label n (bytes_of lines) lines × SpellsEach (item_type item) n (bytes_of lines)

-- The lines are none, or one of the bytes after a value.
abbrev pub IsLast : List Line → Type 0
IsLast lines = (lines ≡ []) ⊎ ((line : Line) × (lines ≡ line ∷ []) × (line.kind ≡ AfterValue))

-- The lines are those of a value of the schema at the start of the bytes and, if bytes follow it, a line for these. In each list at most
-- `most` elements have lines of their own.
pub record IsExplained (most : ℕ) (schema : Schema) (bytes : List ℕ) (lines : List Line) : Type 0 where
  pub front : List Line
  pub rest : List Line
  pub are : lines ≡ front ++ rest
  pub explained : Explains most 0 whole schema front
  pub read : FrontSpells (type_of schema) (bytes_of front)
  pub joins : bytes ≡ bytes_of front ++ bytes_of rest
  pub last : IsLast rest

-- Which lines explain bytes that begin with no value.
use Rattle.std.specs.Prelude.{◌≡◌, ◌≢◌, ℕ, ◌-◌, ◌^◌, ◌<◌, ◌≤◌, List, [], ◌∷◌, ◌++◌, length, get_or, take, Vec, Box, string_bytes}
use Rattle.std.specs.declared.alloc.Global.{Global}
use Rattle.postcard_wire.specs.declared.error.Error.{Error}
use Rattle.postcard_wire.specs.declared.error.Error.TheVariants.{OutOfMemory}
use Rattle.postcard_wire.specs.Number.{SpellsNum}
use Rattle.postcard_schema.specs.declared.leaf.Leaf.{Leaf}
use Rattle.postcard_schema.specs.declared.schema.Named.{Named}
use Rattle.postcard_schema.specs.declared.schema.Schema.{Schema}
use Rattle.postcard_schema.specs.declared.schema.Schema.TheVariants as schemas
use Rattle.postcard_value.specs.Fronts.{HasNoCount, HasNoFlag, HasNoFront, HasNoIndex}
use Rattle.postcard_explain.specs.declared.line.Expected.{Expected}
use Rattle.postcard_explain.specs.declared.line.Expected.TheVariants as expectations
use Rattle.postcard_explain.specs.declared.line.LineKind.TheVariants.{Present, Count, Refused}
use Rattle.postcard_explain.specs.declared.line.Line.{Line}
use Rattle.postcard_explain.specs.Explained.{ExplainsElements, ExplainsMore, ExplainsParts, IsAt, IsIndex, Opens, deeper}
use Rattle.postcard_explain.specs.Parts.{PlainLabel, whole, at_element, Row, HasParts, entry_row, Item, value, entry, HasItems}

mutual
  -- The lines explain the parts of a value of the schema, at this depth and with this label, up to one that can't be read. The last line is
  -- that of this part. It says what is expected there.
  pub data Refuses (most : ℕ) : ℕ → PlainLabel → Schema → List Line → Type 0 where
    -- A value without parts, the first byte of an option, the count of a list or a map, and the index of a variant.
    no_leaf : (depth : ℕ) (label : PlainLabel) (s : Schema) (line : Line) (l : Leaf) → s ≡ schemas.Leaf l → IsAt depth label line
        → line.kind ≡ Refused (expectations.Leaf l) → HasNoFront s line.bytes.now → Refuses most depth label s (line ∷ [])
    no_flag : (depth : ℕ) (label : PlainLabel) (s : Schema) (line : Line) (content : Box Schema Global) → s ≡ schemas.Option content
        → IsAt depth label line → line.kind ≡ Refused expectations.Option → HasNoFlag line.bytes.now → Refuses most depth label s (line ∷ [])
    no_count : (depth : ℕ) (label : PlainLabel) (s : Schema) (line : Line) (item : Item) → HasItems s item → IsAt depth label line
        → line.kind ≡ Refused expectations.Count → HasNoCount line.bytes.now → Refuses most depth label s (line ∷ [])
    no_index : (depth : ℕ) (label : PlainLabel) (s : Schema) (line : Line) (variants : Vec (Named Schema) Global) → s ≡ schemas.Enum variants
        → IsAt depth label line → line.kind ≡ Refused expectations.Variant → HasNoIndex (length variants.items) line.bytes.now
        → Refuses most depth label s (line ∷ [])
    -- A part of a value, with the lines that the value has before it. It is the content of an option or a variant, an item of a list, or a
    -- part of a tuple or a struct.
    in_present : (depth : ℕ) (label : PlainLabel) (s : Schema) (line : Line) (content : Box Schema Global) (more : List Line)
        → s ≡ schemas.Option content → IsAt depth label line → line.kind ≡ Present → line.bytes.now ≡ 1 ∷ []
        → Refuses most (deeper depth) whole content.value more → Refuses most depth label s (line ∷ more)
    in_list : (depth : ℕ) (label : PlainLabel) (s : Schema) (line : Line) (item : Item) (n : ℕ) (more : List Line) → HasItems s item
        → IsAt depth label line → line.kind ≡ Count n → n < 2 ^ 64 → SpellsNum 64 n line.bytes.now
        → RefusesElements most (deeper depth) item n more → Refuses most depth label s (line ∷ more)
    in_array : (depth : ℕ) (label : PlainLabel) (s : Schema) (element : Box Schema Global) (n inner : ℕ) (head more : List Line)
        → s ≡ schemas.Array element n → Opens depth label inner head → RefusesElements most inner (value element.value) n more
        → Refuses most depth label s (head ++ more)
    in_parts : (depth : ℕ) (label : PlainLabel) (s : Schema) (row : Row) (lines : List Line) → HasParts s row → RefusesRow most depth label row lines
        → Refuses most depth label s lines
    in_variant : (depth : ℕ) (label : PlainLabel) (s : Schema) (line : Line) (variants : Vec (Named Schema) Global) (i : ℕ) (x : Named Schema)
        (more : List Line) → s ≡ schemas.Enum variants → IsAt depth label line → i < length variants.items → x ≡ get_or variants.items i x
        → IsIndex line.kind i (string_bytes x.name) → i < 2 ^ 32 → SpellsNum 32 i line.bytes.now
        → Refuses most (deeper depth) whole x.content more → Refuses most depth label s (line ∷ more)

  -- The same for one of these parts. The parts before it are explained.
  pub data RefusesRow (most : ℕ) : ℕ → PlainLabel → Row → List Line → Type 0 where
    in_row : (depth : ℕ) (label : PlainLabel) (row : Row) (inner : ℕ) (head more : List Line) → Opens depth label inner head
        → RefusesParts most inner row more → RefusesRow most depth label row (head ++ more)

  pub data RefusesParts (most : ℕ) : ℕ → Row → List Line → Type 0 where
    in_part : (depth : ℕ) (row : Row) (i : ℕ) (label : PlainLabel) (s : Schema) (lines more : List Line) → i < length row
        → (label, s) ≡ get_or row i (label, s) → ExplainsParts most depth (take i row) lines → Refuses most depth label s more
        → RefusesParts most depth row (lines ++ more)

  -- The same of an item of a list.
  pub data RefusesItem (most : ℕ) : ℕ → PlainLabel → Item → List Line → Type 0 where
    in_value : (depth : ℕ) (label : PlainLabel) (s : Schema) (lines : List Line) → Refuses most depth label s lines
        → RefusesItem most depth label (value s) lines
    in_entry : (depth : ℕ) (label : PlainLabel) (k v : Schema) (lines : List Line) → RefusesRow most depth label (entry_row k v) lines
        → RefusesItem most depth label (entry k v) lines

  -- The same for one of n items. The items before it have the lines of a list of these alone.
  pub data RefusesElements (most : ℕ) : ℕ → Item → ℕ → List Line → Type 0 where
    in_element : (depth : ℕ) (item : Item) (n i : ℕ) (lines more : List Line) → i < n → ExplainsElements most depth item i lines
        → RefusesItem most depth (at_element i) item more → RefusesElements most depth item n (lines ++ more)

-- The lines are those of one of n items that can't be read, whose number is `most` or more. Before them comes the line for the items from
-- number `most` on, if there are some.
abbrev pub RefusesMore : ℕ → ℕ → Item → ℕ → List Line → Type 0
RefusesMore most depth item n lines =
    (i : ℕ) × (head : List Line) × (more : List Line) × (most ≤ i) × (i < n) × ExplainsMore depth (at_element most) item (i - most) head
    × RefusesItem most depth (at_element i) item more × (lines ≡ head ++ more)

-- The lines are a single line of a part that can't be read. It names what is expected there, and the error is not `OutOfMemory`.
abbrev pub IsRefusal : ℕ → PlainLabel → Expected → List ℕ → Error → List Line → Type 0
IsRefusal depth label expected bytes error lines =
    (line : Line) × IsAt depth label line × (line.kind ≡ Refused expected) × (line.bytes.now ≡ bytes) × (lines ≡ line ∷ []) × (error ≢ OutOfMemory)

-- The lines explain the bytes up to a part of the schema that can't be read.
abbrev pub IsExplainedUpTo : ℕ → Schema → List Line → Type 0
IsExplainedUpTo most schema lines = Refuses most 0 whole schema lines

-- At which part reading a value of a schema stops: its path, and the offset of its first byte.
use Rattle.std.specs.Prelude.{◌≡◌, ℕ, ◌+◌, ◌^◌, ◌<◌, ◌⊎◌, Option, MatchOption, List, [], ◌∷◌, ◌++◌, length, get_or, take, Vec, Box, string_bytes}
use Rattle.std.specs.Borrow.{Bor}
use Rattle.std.specs.declared.alloc.Global.{Global}
use Rattle.postcard_wire.specs.Number.{SpellsNum}
use Rattle.postcard_schema.specs.declared.leaf.Leaf.{Leaf}
use Rattle.postcard_schema.specs.declared.path.Step.{Step}
use Rattle.postcard_schema.specs.declared.path.Step.TheVariants.{Name, Part, Element}
use Rattle.postcard_schema.specs.declared.schema.Named.{Named}
use Rattle.postcard_schema.specs.declared.schema.Schema.{Schema}
use Rattle.postcard_schema.specs.declared.schema.Schema.TheVariants as schemas
use Rattle.postcard_schema.specs.Bounds.{depth}
use Rattle.postcard_schema.specs.Meaning.{contents, entry_of, type_of}
use Rattle.postcard_value.specs.Fronts.{FrontSpells, HasNoCount, HasNoFront, HasNoIndex, HasNoRow, SpellsEach, SpellsParts}

-- The schema is a list or a map.
abbrev pub IsCounted : Schema → Type 0
IsCounted s = ((b : Box Schema Global) × (s ≡ schemas.Seq b)) ⊎ ((k : Box Schema Global) × (v : Box Schema Global) × (s ≡ schemas.Map k v))

-- Reading a value of the schema from a prefix of the bytes stops at the first node of the value.
pub data StopsHere : Schema → List ℕ → Type 0 where
  -- A value without parts, the first byte of an option, the count of a list or a map, and the index of a variant.
  at_leaf : (s : Schema) (bytes : List ℕ) (l : Leaf) → s ≡ schemas.Leaf l → HasNoFront s bytes → StopsHere s bytes
  at_flag : (s : Schema) (bytes : List ℕ) (content : Box Schema Global) → s ≡ schemas.Option content → HasNoFront s bytes
      → ((rest : List ℕ) → bytes ≡ 1 ∷ rest → ⊥) → StopsHere s bytes
  at_count : (s : Schema) (bytes : List ℕ) → IsCounted s → HasNoCount bytes → StopsHere s bytes
  at_index : (s : Schema) (bytes : List ℕ) (variants : Vec (Named Schema) Global) → s ≡ schemas.Enum variants
      → HasNoIndex (length variants.items) bytes
      → StopsHere s bytes

-- `Enters s front steps x`: these steps lead from a value of s to a part of the schema x. The value has the bytes `front` before that part.
pub data Enters : Schema → List ℕ → List Step → Schema → Type 0 where
  in_option : (s : Schema) (content : Box Schema Global) → s ≡ schemas.Option content → Enters s (1 ∷ []) [] content.value
  -- An element of a list, and the key and the value of an entry.
  in_list : (s : Schema) (element : Box Schema Global) (n i : ℕ) (count front : List ℕ) → s ≡ schemas.Seq element → n < 2 ^ 64 → SpellsNum 64 n count
      → i < n → SpellsEach (type_of element.value) i front → Enters s (count ++ front) (Element i ∷ []) element.value
  in_key : (s : Schema) (key value : Box Schema Global) (n i : ℕ) (count front : List ℕ) → s ≡ schemas.Map key value → n < 2 ^ 64
      → SpellsNum 64 n count
      → i < n → SpellsEach (entry_of (type_of key.value) (type_of value.value)) i front
      → Enters s (count ++ front) (Element i ∷ Part 0 ∷ []) key.value
  in_value : (s : Schema) (key value : Box Schema Global) (n i : ℕ) (count front own : List ℕ) → s ≡ schemas.Map key value → n < 2 ^ 64
      → SpellsNum 64 n count
      → i < n → SpellsEach (entry_of (type_of key.value) (type_of value.value)) i front → FrontSpells (type_of key.value) own
      → Enters s (count ++ (front ++ own)) (Element i ∷ Part 1 ∷ []) value.value
  in_array : (s : Schema) (element : Box Schema Global) (n i : ℕ) (front : List ℕ) → s ≡ schemas.Array element n → i < n
      → SpellsEach (type_of element.value) i front → Enters s front (Element i ∷ []) element.value
  -- A part of a tuple, a field of a struct, and the content of a variant.
  in_tuple : (s : Schema) (parts : Vec Schema Global) (i : ℕ) (x : Schema) (front : List ℕ) → s ≡ schemas.Tuple parts → i < length parts.items
      → x ≡ get_or parts.items i x → SpellsParts (take i parts.items) front → Enters s front (Part i ∷ []) x
  in_struct : (s : Schema) (fields : Vec (Named Schema) Global) (i : ℕ) (field : Named Schema) (name : Bor (List ℕ)) (front : List ℕ)
      → s ≡ schemas.Struct fields
      → i < length fields.items → field ≡ get_or fields.items i field → name.now ≡ string_bytes field.name
      → SpellsParts (contents (take i fields.items)) front
      → Enters s front (Name name ∷ []) field.content
  in_variant : (s : Schema) (variants : Vec (Named Schema) Global) (i : ℕ) (variant : Named Schema) (name : Bor (List ℕ)) (index : List ℕ)
      → s ≡ schemas.Enum variants
      → i < length variants.items → variant ≡ get_or variants.items i variant → name.now ≡ string_bytes variant.name → i < 2 ^ 32
      → SpellsNum 32 i index
      → Enters s index (Name name ∷ []) variant.content

-- Reading a value of the schema from a prefix of the bytes stops at the part with this path, which begins at this offset. All parts before
-- it can be read, and this part can't.
pub data StopsAt : Schema → List ℕ → List Step → ℕ → Type 0 where
  here : (s : Schema) (bytes : List ℕ) → StopsHere s bytes → StopsAt s bytes [] 0
  inside : (s x : Schema) (bytes front rest : List ℕ) (steps path : List Step) (offset : ℕ) → Enters s front steps x → bytes ≡ front ++ rest
      → StopsAt x rest path offset → StopsAt s bytes (steps ++ path) (length front + offset)

-- Reading a value of the schema from the bytes stops at the part with this path and this offset. The path is empty for the whole value.
abbrev pub IsRefusedAt : Schema → List ℕ → List Step → ℕ → Type 0
IsRefusedAt = StopsAt

-- The steps from `old` to `new` lead from a value of the schema at the start of the bytes to a part of it. The part is of the schema x, and
-- its bytes are at the start of `rest`. If the value can't be read, the part can't.
abbrev pub Entered : Schema → List ℕ → List Step → List Step → Schema → List ℕ → Type 0
Entered s bytes old new x rest =
    (front : List ℕ) × (steps : List Step) × Enters s front steps x × (new ≡ old ++ steps) × (bytes ≡ front ++ rest) × (HasNoFront s bytes
    → HasNoFront x rest)

-- What a call of `enter` found: the part of the value in which reading stops, and the bytes from that part on. The part is less deep than
-- the value. If reading stops at the first node, it found nothing.
abbrev pub Finds : Schema → List ℕ → List Step → List Step → Option (Bor Schema × Bor (List ℕ)) → Type 0
Finds s bytes old new found =
    MatchOption found ((HasNoFront s bytes → StopsHere s bytes) × (new ≡ old))
    (λ part. Entered s bytes old new part.0.now part.1.now × (depth (type_of part.0.now) < depth (type_of s)))

-- The same of n values in a row.
abbrev pub FindsElement : Schema → ℕ → List ℕ → List Step → List Step → Option (Bor Schema × Bor (List ℕ)) → Type 0
FindsElement s n bytes old new found =
    MatchOption found ((HasNoRow (type_of s) n bytes → ⊥) × (new ≡ old))
    (λ part. (i : ℕ) × (front : List ℕ) × (i < n) × SpellsEach (type_of s) i front × (new ≡ old ++ Element i ∷ [])
    × (bytes ≡ front ++ part.1.now) × HasNoFront part.0.now part.1.now × (part.0.now ≡ s))

-- The same of n entries of a map in a row.
abbrev pub FindsEntry : Schema → Schema → ℕ → List ℕ → List Step → List Step → Option (Bor Schema × Bor (List ℕ)) → Type 0
FindsEntry k v n bytes old new found =
    MatchOption found ((HasNoRow (entry_of (type_of k) (type_of v)) n bytes → ⊥) × (new ≡ old))
    (λ part. (i : ℕ) × (front : List ℕ) × (i < n) × SpellsEach (entry_of (type_of k) (type_of v)) i front × HasNoFront part.0.now part.1.now
    × (((new ≡ old ++ Element i ∷ Part 0 ∷ []) × (bytes ≡ front ++ part.1.now) × (part.0.now ≡ k))
    ⊎ ((own : List ℕ) × FrontSpells (type_of k) own × (new ≡ old ++ Element i ∷ Part 1 ∷ []) × (bytes ≡ (front ++ own) ++ part.1.now) ×
    (part.0.now ≡ v))))

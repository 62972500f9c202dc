-- A message of the old type, and what the new type makes of it.
use Rattle.std.specs.Prelude.{◌≡◌, ℕ, List, ◌++◌, length, string_bytes}
use Rattle.postcard_wire.specs.Spelling.{Spells, canonical}
use Rattle.postcard_wire.specs.Tree.{Tree}
use Rattle.postcard_schema.specs.declared.path.Step.{Step}
use Rattle.postcard_schema.specs.declared.schema.Schema.{Schema}
use Rattle.postcard_schema.specs.Meaning.{MessageType, reads}
use Rattle.postcard_schema.specs.Paths.{path_text}
use Rattle.postcard_value.specs.Fronts.{HasNone}
use Rattle.postcard_value.specs.Refused.{IsRefusedAt}
use Rattle.postcard_value.specs.Tree.{tree}
use Rattle.postcard_value.specs.declared.value.Value.{Value}
use Rattle.postcard_compat.specs.declared.example.Example.{Example}
use Rattle.postcard_compat.specs.declared.example.Reading.{Reading}
use Rattle.postcard_compat.specs.declared.example.Reading.TheVariants.{Refused, Read}

-- The bytes encode the value, as one of the type.
abbrev pub IsMessage : MessageType → List ℕ → Value → Type 0
IsMessage old bytes value = reads old (tree value) × Spells (tree value) bytes

-- The bytes encode no value of the type.
abbrev pub IsNoMessage : MessageType → List ℕ → Type 0
IsNoMessage old bytes = (t : Tree) → reads old t → Spells t bytes → ⊥

-- The result of reading some bytes as a type. Either no prefix of the bytes encodes a message of the type. Or the bytes before the last
-- `left` ones encode the value.
abbrev pub IsReading : MessageType → List ℕ → Reading → Type 0
IsReading new bytes (Refused error offset path) = HasNone new bytes
IsReading new bytes (Read value left) =
    reads new (tree value) × ((front rest : List ℕ) × Spells (tree value) front × (bytes ≡ front ++ rest) × (length rest ≡ left))

-- A refusal has the offset and the path of the part at which reading stops.
abbrev pub ShowsPlace : Schema → List ℕ → Reading → Type 0
ShowsPlace new bytes (Refused error offset path) = (steps : List Step) × IsRefusedAt new bytes steps offset × (string_bytes path ≡ path_text steps)
ShowsPlace new bytes (Read value left) = Unit {0}

-- A message of the old type, and what the new type makes of it.
pub record IsExample (old new : MessageType) (e : Example) : Type 0 where
  -- The value is one of the old type, and the bytes are its canonical encoding.
  pub value_is : reads old (tree e.value)
  pub bytes_are : e.bytes.items ≡ canonical (tree e.value)
  pub reading_is : IsReading new e.bytes.items e.reading

-- If the example is refused, its offset and its path are those of the part that can't be read.
abbrev pub IsPlaced : Schema → Example → Type 0
IsPlaced new e = ShowsPlace new e.bytes.items e.reading

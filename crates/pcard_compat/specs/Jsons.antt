-- A comparison as a line of JSON.
use Rattle.std.specs.Prelude.{◌≡◌, ℕ, List, [], ◌∷◌, ◌++◌, codes, Option, None, Some, string_bytes}
use Rattle.std.specs.Fmt.{decimal}
use Rattle.hex.specs.Hex.{encode_lower}
use Rattle.json.specs.Print.{quoted}
use Rattle.postcard_compat.specs.declared.comparison.Comparison.{Comparison}
use Rattle.postcard_compat.specs.declared.change.Difference.{Difference}
use Rattle.postcard_compat.specs.declared.example.Example.{Example}
use Rattle.postcard_compat.specs.declared.example.Reading.{Reading}
use Rattle.postcard_compat.specs.declared.example.Reading.TheVariants.{Refused, Read}
use Rattle.pcard_print.specs.Lines.{IsJsonOf, bytes_member, error_words, field_member}
use Rattle.pcard_compat.specs.declared.version.Version.{Version}
use Rattle.pcard_compat.specs.Texts.{AreEach, bytes_after, verdict_name}

-- The object of a difference: how its part differs, and the path of the part. The path of the whole is left out.
abbrev pub IsObject : Difference → List ℕ → Type 0
IsObject d object = (what : List ℕ) × (object ≡ codes "{\"what\":" ++ (quoted what ++ (field_member (string_bytes d.path) ++ codes "}")))

-- The same after a comma.
abbrev pub IsOther : Difference → List ℕ → Type 0
IsOther d said = (object : List ℕ) × IsObject d object × (said ≡ 44 ∷ object)

-- The member with this name, an array of the differences. Nothing, if there are none.
abbrev pub IsMember : List ℕ → List Difference → List ℕ → Type 0
IsMember name [] said = said ≡ []
IsMember name (d ∷ ds) said =
    (first : List ℕ) × (others : List ℕ) × IsObject d first × AreEach IsOther ds others
    × (said ≡ codes ",\"" ++ (name ++ (codes "\":[" ++ (first ++ (others ++ codes "]")))))

-- What the reader makes of the bytes.
abbrev pub IsReadingMembers : Version → List ℕ → Reading → List ℕ → Type 0
IsReadingMembers reader bytes (Refused error offset path) said =
    said ≡ codes ",\"at\":" ++ (decimal offset ++ (codes ",\"error\":\"" ++ (error_words error ++ (codes "\"" ++ field_member (string_bytes path)))))
IsReadingMembers reader bytes (Read value left) said =
    (json : List ℕ) × IsJsonOf reader.schema.now value json
    × (said ≡ codes ",\"new\":" ++ (json ++ bytes_member (codes "rest") (bytes_after bytes left)))

-- The member with the bytes that the writer writes, the value, and what the reader makes of the bytes.
abbrev pub IsExampleMember : Version → Version → Option Example → List ℕ → Type 0
IsExampleMember writer reader None said = said ≡ []
IsExampleMember writer reader (Some e) said =
    (json : List ℕ) × (reading : List ℕ) × IsJsonOf writer.schema.now e.value json × IsReadingMembers reader e.bytes.items e.reading reading
    × (said ≡ codes ",\"example\":{\"bytes\":\"" ++ (encode_lower e.bytes.items ++ (codes "\",\"old\":" ++ (json ++ (reading ++ codes "}")))))

-- The line of a comparison: the word, the differences, the notes, and the example.
pub record IsJson (writer reader : Version) (c : Comparison) (line : List ℕ) : Type 0 where
  pub differences : List ℕ
  pub notes : List ℕ
  pub example : List ℕ
  pub are_differences : IsMember (codes "differences") c.differences.items differences
  pub are_notes : IsMember (codes "notes") c.notes.items notes
  pub is_example : IsExampleMember writer reader c.example example
  pub object : line ≡ codes "{\"verdict\":\"" ++ (verdict_name c.verdict ++ (codes "\"" ++ (differences ++ (notes ++ (example ++ codes "}\n")))))

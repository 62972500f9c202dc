-- A comparison as lines of text.
use Rattle.std.specs.Prelude.{◌≡◌, ℕ, ◌-◌, List, [], ◌∷◌, ◌++◌, drop, length, codes, Option, None, Some, IfSome, string_bytes}
use Rattle.std.specs.Fmt.{decimal}
use Rattle.hex.specs.Hex.{encode_lower}
use Rattle.postcard_compat.specs.declared.comparison.Comparison.{Comparison}
use Rattle.postcard_compat.specs.declared.comparison.Verdict.{Verdict}
use Rattle.postcard_compat.specs.declared.comparison.Verdict.TheVariants.{Same, Front, Refuses, Misread, Differs}
use Rattle.postcard_compat.specs.declared.change.Difference.{Difference}
use Rattle.postcard_compat.specs.declared.example.Example.{Example}
use Rattle.postcard_compat.specs.declared.example.Reading.{Reading}
use Rattle.postcard_compat.specs.declared.example.Reading.TheVariants.{Refused, Read}
use Rattle.postcard_value.specs.Tree.{tree}
use Rattle.postcard_value_text.specs.Layout.{layout_of}
use Rattle.postcard_value_text.specs.Shown.{text}
use Rattle.pcard_print.specs.Lines.{error_words, more_text, place_text}
use Rattle.pcard_compat.specs.declared.version.Side.{Side}
use Rattle.pcard_compat.specs.declared.version.Side.TheVariants.{Old, New}
use Rattle.pcard_compat.specs.declared.version.Version.{Version}

-- The word for a type in an answer.
abbrev pub side_name : Side → List ℕ
side_name Old = codes "OLD"
side_name New = codes "NEW"

-- The word of a verdict.
abbrev pub verdict_name : Verdict → List ℕ
verdict_name Same = codes "same"
verdict_name Front = codes "front"
verdict_name Refuses = codes "refuses"
verdict_name Misread = codes "misread"
verdict_name Differs = codes "differs"

-- The meaning of a verdict's word, up to the name of the writer.
abbrev pub before_name_of : Verdict → Option Example → List ℕ
before_name_of Same example = codes "each message of"
before_name_of Front example = codes "each message of"
before_name_of Refuses example = codes "some messages of"
before_name_of Misread example = codes "some message of"
before_name_of Differs None = codes "the types differ, and no message of"
before_name_of Differs (Some example) = codes "some messages of"

-- The meaning of the verdict, up to the name of the writer.
abbrev pub before_name : Comparison → List ℕ
before_name c = before_name_of c.verdict c.example

-- The meaning of a verdict's word, after the name of the writer.
abbrev pub after_name_of : Verdict → Option Example → List ℕ
after_name_of Same example = codes "is read as the same value"
after_name_of Front example = codes "is read as its first parts, and bytes after them are left"
after_name_of Refuses example = codes "are refused, and none is read as another value"
after_name_of Misread example = codes "is read as another value"
after_name_of Differs None = codes "was found that shows it"
after_name_of Differs (Some example) = codes "are refused or not read to their end"

-- The meaning of the verdict, after the name of the writer.
abbrev pub after_name : Comparison → List ℕ
after_name c = after_name_of c.verdict c.example

-- The first line of a comparison: the word of the verdict and its meaning.
abbrev pub first_line : Side → Comparison → List ℕ
first_line side c =
    verdict_name c.verdict ++ (codes ": " ++ (before_name c ++ (codes " " ++ (side_name side ++ (codes " " ++ (after_name c ++ 10 ∷ []))))))

-- The path of a part, or a word for the whole.
abbrev pub place_name : List ℕ → List ℕ
place_name [] = codes "the value"
place_name (b ∷ path) = b ∷ path

-- The text is that of the items of a list, one after another. P says which texts an item has.
abbrev pub AreEach : {A : Type 0} → (A → List ℕ → Type 0) → List A → List ℕ → Type 0
AreEach P [] said = said ≡ []
AreEach P (x ∷ xs) said = (first : List ℕ) × (rest : List ℕ) × P x first × AreEach P xs rest × (said ≡ first ++ rest)

-- The line of a difference: the path of its part, and how the part differs.
abbrev pub IsLine : Difference → List ℕ → Type 0
IsLine d line = (what : List ℕ) × (line ≡ place_name (string_bytes d.path) ++ (codes ": " ++ (what ++ 10 ∷ [])))

-- The text is that of the value, if it is specified. The text of some values with floats is not specified.
abbrev pub Shows : Option (List ℕ) → List ℕ → Type 0
Shows known shown = IfSome known (λ it. shown ≡ it)

-- The last `left` bytes, or all if there are fewer.
abbrev pub bytes_after : List ℕ → ℕ → List ℕ
bytes_after bytes left = drop (length bytes - left) bytes

-- What the reader makes of the bytes.
abbrev pub IsReadingText : Version → List ℕ → Reading → List ℕ → Type 0
IsReadingText reader bytes (Refused error offset path) said =
    said ≡ side_name reader.side ++ (codes " refuses it at byte " ++ (decimal offset ++ (codes ": " ++ (place_text (string_bytes path) ++ (error_words error ++ 10 ∷ [])))))
IsReadingText reader bytes (Read value left) said =
    (shown : List ℕ) × Shows (text (layout_of reader.schema.now) (tree value)) shown
    × (said ≡ side_name reader.side ++ (codes " reads " ++ (shown ++ (more_text (bytes_after bytes left) ++ 10 ∷ []))))

-- The value that the writer writes, its bytes, and what the reader makes of them.
abbrev pub IsExampleText : Version → Version → Option Example → List ℕ → Type 0
IsExampleText writer reader None said = said ≡ []
IsExampleText writer reader (Some e) said =
    (shown : List ℕ) × (reading : List ℕ) × Shows (text (layout_of writer.schema.now) (tree e.value)) shown × IsReadingText reader e.bytes.items e.reading reading
    × (said ≡ side_name writer.side ++ (codes " writes " ++ (shown ++ (codes " as " ++ (encode_lower e.bytes.items ++ 10 ∷ reading)))))

-- The lines of a comparison: the verdict and its meaning, the differences, the notes, and the example.
pub record IsText (writer reader : Version) (c : Comparison) (said : List ℕ) : Type 0 where
  pub differences : List ℕ
  pub notes : List ℕ
  pub example : List ℕ
  pub are_differences : AreEach IsLine c.differences.items differences
  pub are_notes : AreEach IsLine c.notes.items notes
  pub is_example : IsExampleText writer reader c.example example
  pub lines : said ≡ first_line writer.side c ++ (differences ++ (notes ++ example))

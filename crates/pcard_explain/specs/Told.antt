-- What a row says of a line's bytes, as text and as JSON.
use Rattle.std.specs.Prelude.{◌≡◌, ℕ, nat_eq, if◌then◌else◌, List, [], ◌++◌, codes, Option, Some}
use Rattle.std.specs.Fmt.{◌++?◌, decimal}
use Rattle.hex.specs.Hex.{encode_lower}
use Rattle.json.specs.Print.{quoted}
use Rattle.postcard_schema.specs.Leaves.{leaf_name}
use Rattle.postcard_schema.specs.declared.leaf.Leaf.TheVariants as leaves
use Rattle.postcard_value.specs.Tree.{tree}
use Rattle.postcard_value_text.specs.Layout.{layout_of}
use Rattle.postcard_value_text.specs.Shown.{text}
use Rattle.postcard_explain.specs.declared.line.Expected.{Expected}
use Rattle.postcard_explain.specs.declared.line.Expected.TheVariants as expectations
use Rattle.postcard_explain.specs.declared.line.Label.{Label}
use Rattle.postcard_explain.specs.declared.line.Label.TheVariants.{Whole, Field, Part, Element}
use Rattle.postcard_explain.specs.declared.line.LineKind.{LineKind}
use Rattle.postcard_explain.specs.declared.line.LineKind.TheVariants.{Value, Absent, Present, Count, Variant, Parts, MoreElements, Refused, AfterValue}
use Rattle.postcard_explain.specs.declared.line.Line.{Line}
use Rattle.pcard_print.specs.Lines.{IsJsonOf, offset}

-- ---- text

-- The name of a part.
abbrev pub title_text : Label → List ℕ
title_text Whole = []
title_text (Field r) = r.now
title_text (Part i) = codes "." ++ decimal i
title_text (Element i) = codes "[" ++ (decimal i ++ codes "]")

-- What stands between the name of a part and its value.
abbrev pub separator_text : Label → LineKind → List ℕ
separator_text Whole kind = []
separator_text _ Parts = codes ":"
separator_text _ _ = codes ": "

-- The word for n elements.
abbrev pub elements_text : ℕ → List ℕ
elements_text n = if nat_eq n 1 then codes "element" else codes "elements"

-- What is expected where a part can't be read.
abbrev pub expected_text : Expected → List ℕ
expected_text (expectations.Leaf leaves.Bool) = codes "bool: 00 or 01"
expected_text (expectations.Leaf l) = leaf_name l
expected_text expectations.Option = codes "an option: 00 or 01"
expected_text expectations.Count = codes "the number of elements"
expected_text expectations.Variant = codes "the index of a variant"

-- What a line's bytes are, or `None` if the text of the value is not specified, as for `dec`.
abbrev pub kind_text : LineKind → Option (List ℕ)
kind_text (Value s v) = text (layout_of s.now) (tree v)
kind_text Absent = Some (codes "None")
kind_text Present = Some (codes "Some")
kind_text (Count n) = Some (decimal n ++ (codes " " ++ elements_text n))
kind_text (Variant i r) = Some (r.now ++ (codes " (variant " ++ (decimal i ++ codes ")")))
kind_text Parts = Some []
kind_text (MoreElements n) = Some (codes "and " ++ (decimal n ++ codes " more"))
kind_text (Refused e) = Some (codes "expected " ++ expected_text e)
kind_text AfterValue = Some (codes "after the value")

-- The text of a line: the name of its part, a separator, and its value.
abbrev pub told_text : Line → Option (List ℕ)
told_text line = Some (title_text line.label ++ separator_text line.label line.kind) ++? kind_text line.kind

-- ---- JSON

-- The members that say what a line's bytes are.
abbrev pub IsMembers : LineKind → List ℕ → Type 0
IsMembers (Value s v) members = (text : List ℕ) × IsJsonOf s.now v text × (members ≡ codes ",\"value\":" ++ text)
IsMembers Absent members = members ≡ codes ",\"option\":\"None\""
IsMembers Present members = members ≡ codes ",\"option\":\"Some\""
IsMembers (Count n) members = members ≡ codes ",\"count\":" ++ decimal n
IsMembers (Variant i r) members = members ≡ codes ",\"variant\":" ++ (quoted r.now ++ (codes ",\"index\":" ++ decimal i))
IsMembers Parts members = members ≡ []
IsMembers (MoreElements n) members = members ≡ codes ",\"more\":" ++ decimal n
IsMembers (Refused x) members = members ≡ codes ",\"expected\":\"" ++ (expected_text x ++ codes "\"")
IsMembers AfterValue members = members ≡ codes ",\"rest\":true"

-- The row of bytes at an offset. It has the offset as the member `key`, the bytes, the member of a path, and the members that say what they
-- are.
abbrev pub object_text : List ℕ → ℕ → List ℕ → List ℕ → List ℕ → List ℕ
object_text key at bytes field members =
    (codes "{\"" ++ (key ++ (codes "\":" ++ (decimal (offset at) ++ codes ",\"bytes\":\""))))
    ++ (encode_lower bytes ++ (codes "\"" ++ (field ++ (members ++ codes "}\n"))))

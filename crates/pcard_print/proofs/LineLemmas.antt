-- The parts of the lines that `pcard` prints: texts in a row, the bytes after a value, and the members of JSON.
use Rattle.std.proofs.Common.{◌≡◌, ℕ, ◌<◌, false, List, [], ◌∷◌, ◌++◌, length, arith, Option, Some, None, refl, ap, subst, ◌∙◌, codes}
use Rattle.std.specs.Fmt.{◌++?◌, WritesText, decimal}
use Rattle.std.specs.Io.KnownBytes.{Appends}
use Rattle.std.proofs.KnownBytes.{Appends-trans}
use Rattle.std.proofs.lemmas.Fmt.{contents_after_writes}
use Rattle.std.proofs.lemmas.List.{append_assoc}
use Rattle.hex.specs.Hex.{encode_lower}
use Rattle.json.specs.Print.{quoted}
use Rattle.serde_json.specs.Data.{Data, string}
use Rattle.serde_json.specs.Written.{compact_text, has_float}
use Rattle.pcard_print.specs.Lines.{Prints, bytes_member, field_member, hex_member, more_text, noun_of, place_text}

-- Two texts in a row are printed if each is.
pub prints_both : (o p : Option (List ℕ)) (a b c : Option (List ℕ)) → Prints o a b → Prints p b c → Prints (o ++? p) a c
prints_both None p a b c h k = tt
prints_both (Some x) None a b c h k = tt
prints_both (Some x) (Some y) a b c h k = Appends-trans a b c x y h k

-- If a text was written into an empty line, and the bytes of the line are printed, the text is printed.
pub gathered : {L : Type 0} (took : L → List ℕ → L → Type 0) (bytes : L → List ℕ) → ((a : L) (x : List ℕ) (b : L) → took a x b → bytes b ≡ bytes a ++ x)
    → (said : Option (List ℕ)) (empty full : L) (old new : Option (List ℕ)) → bytes empty ≡ [] → WritesText took empty said full → Appends old new (bytes full) → Prints said old new
gathered took bytes appends None empty full old new none written printed = tt
gathered took bytes appends (Some x) empty full old new none written printed =
    let whole : bytes full ≡ x = contents_after_writes took bytes appends empty x full written ∙ ap (λ (front : List ℕ). front ++ x) none in
    subst (λ (line : List ℕ). Appends old new line) whole printed

-- If there are bytes after a value, ` and `, their number, the noun, ` more: ` and their digits are `more_text`.
more_shown : (rest noun : List ℕ) → 0 < length rest → noun ≡ noun_of (length rest)
    → (codes " and " ++ (decimal (length rest) ++ (codes " " ++ (noun ++ codes " more: ")))) ++ encode_lower rest ≡ more_text rest
more_shown [] noun some is = absurd (omega arith)
more_shown (b ∷ rest) noun some is =
    ap (λ (t : List ℕ). (codes " and " ++ (decimal (length (b ∷ rest)) ++ (codes " " ++ (t ++ codes " more: ")))) ++ encode_lower (b ∷ rest)) is

-- If the data is a string, and the text is its compact JSON, the text is the quoted string.
pub quoted_text : (d : Data) (path text : List ℕ) → d ≡ string path → (has_float d ≡ false → text ≡ compact_text d) → text ≡ quoted path
quoted_text d path text is h =
    let P : Data → Type 0 = λ x. has_float x ≡ false → text ≡ compact_text x in
    let k : has_float (string path) ≡ false → text ≡ compact_text (string path) = subst P is h in
    k refl

-- If the path isn't empty, `,"field":` and the quoted path are the member of the path.
pub field_shown : (path : List ℕ) → 0 < length path → codes ",\"field\":" ++ quoted path ≡ field_member path
field_shown [] some = absurd (omega arith)
field_shown (b ∷ path) some = refl

-- If the path isn't empty, the path and `: ` are the text of the place.
pub place_shown : (path : List ℕ) → 0 < length path → path ++ codes ": " ≡ place_text path
place_shown [] some = absurd (omega arith)
place_shown (b ∷ path) some = refl

-- If the name with its signs, the digits of the bytes, and the last quote are printed, the member of these bytes is printed.
pub member_appended : (old first second new : Option (List ℕ)) (name bytes : List ℕ) → Appends old first (codes ",\"" ++ (name ++ codes "\":\"")) → Appends first second (encode_lower bytes)
    → Appends second new (codes "\"") → Appends old new (hex_member name bytes)
member_appended old first second new name bytes a b c =
    let whole = Appends-trans old first new _ _ a (Appends-trans first second new _ _ b c) in
    let same : (codes ",\"" ++ (name ++ codes "\":\"")) ++ (encode_lower bytes ++ codes "\"") ≡ hex_member name bytes =
    ap (λ (t : List ℕ). codes ",\"" ++ t) (append_assoc name (codes "\":\"") (encode_lower bytes ++ codes "\"")) in
    subst (λ (t : List ℕ). Appends old new t) same whole

-- If there are bytes, printing their member prints `bytes_member`, which is empty for no bytes.
pub member_printed : (old new : Option (List ℕ)) (name bytes : List ℕ) → 0 < length bytes → Appends old new (hex_member name bytes) → Appends old new (bytes_member name bytes)
member_printed old new name [] some h = absurd (omega arith)
member_printed old new name (b ∷ bytes) some h = h

-- If there are bytes after a value, and their words and then their digits are printed, `more_text` is printed.
pub more_appended : (old mid new : Option (List ℕ)) (rest noun : List ℕ) → 0 < length rest → noun ≡ noun_of (length rest)
    → Appends old mid (codes " and " ++ (decimal (length rest) ++ (codes " " ++ (noun ++ codes " more: ")))) → Appends mid new (encode_lower rest) → Appends old new (more_text rest)
more_appended old mid new rest noun some is first second =
    subst (λ (t : List ℕ). Appends old new t) (more_shown rest noun some is) (Appends-trans old mid new _ _ first second)

-- In an explanation, only the last line may have the bytes after the value. So the lines before it are those of the value.
use Rattle.std.proofs.Common.{◌≡◌, ◌≢◌, inl, inr, ℕ, List, [], ◌∷◌, ◌++◌, length, string_bytes, refl, sym, ap, subst, ◌∙◌, arith, length-append}
use Rattle.std.proofs.lemmas.List.{append-nil}
use Rattle.postcard_schema.specs.Meaning.{type_of}
use Rattle.postcard_schema.specs.declared.schema.Schema.{Schema}
use Rattle.postcard_value.specs.Fronts.{FrontSpells}
use Rattle.postcard_explain.specs.Explained.{bytes_of, IsExplained, IsIndex, IsLast, IsValue, Opens, Explains, ExplainsElements, ExplainsItem, ExplainsParts, ExplainsRow}
use Rattle.postcard_explain.specs.Explained as rule
use Rattle.postcard_explain.specs.Parts.{PlainLabel, whole, at_field, at_part, at_element, Row, Item}
use Rattle.postcard_explain.specs.declared.line.Line.{Line}
use Rattle.postcard_explain.specs.declared.line.LineKind.{LineKind}
use Rattle.postcard_explain.specs.declared.line.LineKind.TheVariants.{Parts, AfterValue}
use Rattle.pcard_explain.specs.Rows.{IsSplit}

-- ---- lines of parts

-- None of the lines has the bytes after a value.
abbrev AreParts : List Line → Type 0
AreParts [] = Unit {0}
AreParts (line ∷ lines) = (line.kind ≢ AfterValue) × AreParts lines

-- Two lists of lines of parts, joined, are lines of parts.
parts_join : (xs ys : List Line) → AreParts xs → AreParts ys → AreParts (xs ++ ys)
parts_join [] ys h k = k
parts_join (x ∷ xs) ys h k = (h.0, parts_join xs ys h.1 k)

-- The last of the lines of parts is not that of the bytes after the value.
last_part : (xs : List Line) (x : Line) → AreParts (xs ++ x ∷ []) → x.kind ≢ AfterValue
last_part [] x h = h.0
last_part (y ∷ xs) x h = last_part xs x h.1

-- A list of one line of the kind `Parts` is a list of lines of parts.
opening : (line : Line) (lines : List Line) → line.kind ≡ Parts → lines ≡ line ∷ [] → AreParts lines
opening line lines kind is = rw is (λ e. cc (kind, e), tt)

opens_parts : (depth : ℕ) (label : PlainLabel) (inner : ℕ) (lines : List Line) → Opens depth label inner lines → AreParts lines
opens_parts depth whole inner lines h = rw h.1 tt
opens_parts depth (at_field name) inner lines h = opening h.0 lines h.2 h.5
opens_parts depth (at_part i) inner lines h = opening h.0 lines h.2 h.5
opens_parts depth (at_element i) inner lines h = opening h.0 lines h.2 h.5

mutual
  are_parts : (most depth : ℕ) (label : PlainLabel) (s : Schema) (lines : List Line) → Explains most depth label s lines → AreParts lines
  are_parts most depth label s lines (rule.of_leaf d b x line l v is at kind r) = (λ e. subst (λ (k : LineKind). IsValue k x v) e kind, tt)
  are_parts most depth label s lines (rule.of_absent d b x line content is at kind e) = (λ after. cc (kind, after), tt)
  are_parts most depth label s lines (rule.of_present d b x line content more is at kind e h) = (λ after. cc (kind, after), are_parts most _ _ _ more h)
  are_parts most depth label s lines (rule.of_list d b x line item n more has at kind low num h) =
      (λ after. cc (kind, after), each_parts most _ _ _ more h)
  are_parts most depth label s lines (rule.of_array d b x element n inner head more is o h) =
      parts_join head more (opens_parts _ _ _ head o) (each_parts most _ _ _ more h)
  are_parts most depth label s lines (rule.of_parts d b x row ls has h) = row_parts most _ _ _ ls h
  are_parts most depth label s lines (rule.of_variant d b x line variants i own more is at low found kind few num h) =
      (λ e. subst (λ (k : LineKind). IsIndex k i (string_bytes own.name)) e kind, are_parts most _ _ _ more h)

  row_parts : (most depth : ℕ) (label : PlainLabel) (row : Row) (lines : List Line) → ExplainsRow most depth label row lines → AreParts lines
  row_parts most depth label row lines (rule.of_row d b r inner head more o h) =
      parts_join head more (opens_parts _ _ _ head o) (in_row_parts most _ _ more h)

  in_row_parts : (most depth : ℕ) (row : Row) (lines : List Line) → ExplainsParts most depth row lines → AreParts lines
  in_row_parts most depth row lines (rule.no_parts d) = tt
  in_row_parts most depth row lines (rule.one_part d ps b s before more h j) =
      parts_join before more (in_row_parts most _ ps before h) (are_parts most _ _ _ more j)

  item_parts : (most depth : ℕ) (label : PlainLabel) (item : Item) (lines : List Line) → ExplainsItem most depth label item lines → AreParts lines
  item_parts most depth label item lines (rule.of_value d b s ls h) = are_parts most _ _ s ls h
  item_parts most depth label item lines (rule.of_entry d b k v ls h) = row_parts most _ _ _ ls h

  each_parts : (most depth : ℕ) (item : Item) (n : ℕ) (lines : List Line) → ExplainsElements most depth item n lines → AreParts lines
  each_parts most depth item n lines (rule.no_elements d x) = tt
  each_parts most depth item n lines (rule.one_element d x k before more low h j) =
      parts_join before more (each_parts most _ x k before h) (item_parts most _ _ x more j)
  each_parts most depth item n lines (rule.more_elements d x k m before line end some h at kind b) =
      parts_join before (line ∷ []) (each_parts most _ x k before h) (λ after. cc (kind, after), tt)

-- ---- the last line

-- Lists that are equal with their last elements are equal without them.
same_front : (xs ys : List Line) (x y : Line) → xs ++ x ∷ [] ≡ ys ++ y ∷ [] → (xs ≡ ys) × (x ≡ y)
same_front [] [] x y e = (refl, cc e)
same_front [] (b ∷ ys) x y e = absurd (omega (arith, ap length e, length-append ys (y ∷ [])))
same_front (a ∷ xs) [] x y e = absurd (omega (arith, ap length e, length-append xs (x ∷ [])))
same_front (a ∷ xs) (b ∷ ys) x y e =
    let front : a ≡ b = cc e in
    let others : xs ++ x ∷ [] ≡ ys ++ y ∷ [] = cc e in
    let k = same_front xs ys x y others in
    (cc (front, k.0), k.1)

-- The bytes of a list of one line are those of the line.
bytes_of_one : (line : Line) (lines : List Line) → lines ≡ line ∷ [] → bytes_of lines ≡ line.bytes.now
bytes_of_one line lines is = ap bytes_of is ∙ append-nil line.bytes.now

-- If lines of parts come first, and then nothing or the line after the value, the split is there.
parted : (front rest lines value : List Line) (after : List ℕ) → AreParts front → IsLast rest → lines ≡ front ++ rest → IsSplit lines value after
    → (value ≡ front) × (after ≡ bytes_of rest)
parted front rest lines value after plain (inl none) are (inl (line, kind, is, own)) =
    let whole : front ≡ value ++ line ∷ [] = sym (append-nil front) ∙ sym (ap (λ (r : List Line). front ++ r) none) ∙ sym are ∙ is in
    absurd (last_part value line (subst AreParts whole plain) kind)
parted front rest lines value after plain (inl none) are (inr (other, is, nothing)) =
    (is ∙ are ∙ ap (λ (r : List Line). front ++ r) none ∙ append-nil front, nothing ∙ sym (ap bytes_of none))
parted front rest lines value after plain (inr (l, one, last)) are (inl (line, kind, is, own)) =
    let k = same_front value front line l (sym is ∙ are ∙ ap (λ (r : List Line). front ++ r) one) in
    (k.0, own ∙ ap (λ (x : Line). x.bytes.now) k.1 ∙ sym (bytes_of_one l rest one))
parted front rest lines value after plain (inr (l, one, last)) are (inr (other, is, nothing)) =
    absurd (other front l (are ∙ ap (λ (r : List Line). front ++ r) one) last)

pub parted_after_value : (most : ℕ) (schema : Schema) (bytes : List ℕ) (lines value : List Line) (after : List ℕ) → IsExplained most schema bytes lines
    → IsSplit lines value after → FrontSpells (type_of schema) (bytes_of value) × (bytes ≡ bytes_of value ++ after)
parted_after_value most schema bytes lines value after told split =
    let k = parted told.front told.rest lines value after (are_parts most _ _ _ told.front told.explained) told.last told.are split in (
      subst (λ (ls : List Line). FrontSpells (type_of schema) (bytes_of ls)) (sym k.0) told.read,
      told.joins ∙ ap (λ (ls : List Line). bytes_of ls ++ bytes_of told.rest) (sym k.0) ∙ ap (λ (p : List ℕ). bytes_of value ++ p) (sym k.1),
    )

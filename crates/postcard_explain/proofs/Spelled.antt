-- Lines that explain a value of a type have bytes that encode one.
use Rattle.std.proofs.Common.{◌≡◌, ℕ, ◌+◌, ◌-◌, ◌<◌, ◌^◌, List, [], ◌∷◌, ◌++◌, refl, sym, ◌∙◌, ap, subst, arith, inl, inr, append_assoc, append-nil}
use Rattle.postcard_wire.specs.Number.{SpellsNum}
use Rattle.postcard_wire.specs.Tree.{Tree, Trees, Absent, Present, Seq, Group, Variant, NoTrees, Then}
use Rattle.postcard_wire.specs.Spelling.{Spells, SpellsAll}
use Rattle.postcard_wire.specs.Reading.{IsSeq}
use Rattle.postcard_shape.specs.Lists.{AreRead}
use Rattle.postcard_schema.specs.declared.schema.Schema.{Schema}
use Rattle.postcard_schema.specs.Lemmas.{content_at, type_of_array, type_of_enum, type_of_option}
use Rattle.postcard_schema.specs.Meaning.{MessageType, contents, type_of, types_of, reads, reads_at}
use Rattle.postcard_value.specs.Fronts.{FrontSpells, SpellsEach, SpellsParts}
use Rattle.postcard_value.proofs.FrontLemmas.{each_more, parts_more}
use Rattle.postcard_explain.specs.declared.line.Line.{Line}
use Rattle.postcard_explain.specs.Explained.{bytes_of, Opens, Explains, ExplainsElements, ExplainsItem, ExplainsParts, ExplainsRow}
use Rattle.postcard_explain.specs.Explained as rule
use Rattle.postcard_explain.specs.Parts.{PlainLabel, whole, at_field, at_part, at_element, Row, schemas_of, Item, item_type}
use Rattle.postcard_explain.proofs.PartLemmas.{schemas_join, parts_type, items_type}

-- ---- bytes of lines

-- The bytes of lines, and of more lines after them.
pub bytes_join : (xs ys : List Line) → bytes_of (xs ++ ys) ≡ bytes_of xs ++ bytes_of ys
bytes_join [] ys = refl
bytes_join (x ∷ xs) ys = ap (λ p. x.bytes.now ++ p) (bytes_join xs ys) ∙ sym (append_assoc x.bytes.now (bytes_of xs) (bytes_of ys))

-- A line without bytes adds none.
line_nothing : (line : Line) (lines : List Line) → line.bytes.now ≡ [] → lines ≡ line ∷ [] → bytes_of lines ≡ []
line_nothing line lines none is = rw (is, none) refl

-- What opens the parts of a value has no bytes.
pub opens_nothing : (depth : ℕ) (label : PlainLabel) (inner : ℕ) (lines : List Line) → Opens depth label inner lines → bytes_of lines ≡ []
opens_nothing depth whole inner lines h = rw h.1 refl
opens_nothing depth (at_field name) inner lines h = line_nothing h.0 lines h.3 h.5
opens_nothing depth (at_part i) inner lines h = line_nothing h.0 lines h.3 h.5
opens_nothing depth (at_element i) inner lines h = line_nothing h.0 lines h.3 h.5

-- ---- rows of values

-- Values in a row, and then more of them.
each_join : (t : MessageType) (n m : ℕ) (ts : Trees) (p q : List ℕ) → SpellsEach t n p → AreRead m (reads t) ts → SpellsAll ts q
    → SpellsEach t (n + m) (p ++ q)
each_join t n m NoTrees p q a b s =
    let none : n + m ≡ n = omega (arith, b.0) in
    rw (none, s, append-nil p) a
each_join t n m (Then x xs) p q a b (front, rest, r, others, e) =
    let one : n + m ≡ (n + 1) + (m - 1) = omega (arith, b.0) in
    rw (one, e, ← append_assoc p front rest)
    (each_join t (n + 1) (m - 1) xs (p ++ front) rest (each_more t n x p front a b.1.0 r) (omega (arith, b.0), b.1.1) others)

-- ---- lines of a value

-- Nothing after a list leaves it equal.
trail : (p q : List ℕ) → p ≡ q ++ [] → q ≡ p ++ []
trail p q e = sym (append-nil q) ∙ (sym e ∙ sym (append-nil p))

-- The line of a count and the lines of as many items have the bytes of a list.
list_spelled : (R : Tree → Type 0) (n : ℕ) (line : Line) (more : List Line) → n < 2 ^ 64 → SpellsNum 64 n line.bytes.now
    → ((ts : Trees) × AreRead n R ts × SpellsAll ts (bytes_of more)) → (t : Tree) × IsSeq R t × Spells t (line.bytes.now ++ bytes_of more)
list_spelled R n line more low num (ts, (size, each), s) =
    (Seq ts, (ts, refl, rw size low, each), (line.bytes.now, bytes_of more, rw size num, s, refl))

mutual
  pub spelled : (most depth : ℕ) (label : PlainLabel) (s : Schema) (lines : List Line) → Explains most depth label s lines
      → FrontSpells (type_of s) (bytes_of lines)
  spelled most depth label s lines (rule.of_leaf d b x line l v is at kind r) =
      (r.tree, r.is_read, subst (λ p. Spells r.tree p) (trail _ _ r.joins) r.is_spelled)
  spelled most depth label s lines (rule.of_absent d b x line content is at kind e) =
      rw (is, type_of_option content, e) (Absent, inl refl, refl)
  spelled most depth label s lines (rule.of_present d b x line content more is at kind e h) =
      let k = spelled most _ _ _ more h in
      rw (is, type_of_option content, e) (Present k.0, inr (k.0, refl, k.1), (1 ∷ [], bytes_of more, refl, k.2, refl))
  spelled most depth label s lines (rule.of_list d b x line item n more has at kind low num h) =
      rw (items_type x item has) (list_spelled _ n line more low num (each_spelled most _ _ _ more h))
  spelled most depth label s lines (rule.of_array d b x element n inner head more is o h) =
      let k = each_spelled most _ _ _ more h in
      rw (is, type_of_array element n, bytes_join head more, opens_nothing _ _ _ head o) (Group k.0, (k.0, refl, k.1.0, k.1.1), k.2)
  spelled most depth label s lines (rule.of_parts d b x row ls has h) =
      let k = row_spelled most _ _ _ ls h in
      rw (parts_type x row has) (Group k.0, (k.0, refl, k.1), k.2)
  spelled most depth label s lines (rule.of_variant d b x line variants i own more is at low found kind few num h) =
      let here : reads_at (types_of (contents variants.items)) i ≡ reads (type_of own.content) = content_at variants.items i own low found in
      let k = spelled most _ _ _ more h in
      rw (is, type_of_enum variants)
      (Variant i k.0, (i, k.0, refl, few, subst (λ P. P k.0) (sym here) k.1), (line.bytes.now, bytes_of more, num, k.2, refl))

  row_spelled : (most depth : ℕ) (label : PlainLabel) (row : Row) (lines : List Line) → ExplainsRow most depth label row lines
      → SpellsParts (schemas_of row) (bytes_of lines)
  row_spelled most depth label row lines (rule.of_row d b r inner head more o h) =
      rw (bytes_join head more, opens_nothing _ _ _ head o) (parts_spelled most _ _ more h)

  pub parts_spelled : (most depth : ℕ) (row : Row) (lines : List Line) → ExplainsParts most depth row lines → SpellsParts (schemas_of row) (bytes_of lines)
  parts_spelled most depth row lines (rule.no_parts d) = (NoTrees, refl, refl)
  parts_spelled most depth row lines (rule.one_part d ps b s before more h j) =
      rw (bytes_join before more, schemas_join ps ((b, s) ∷ []))
      (parts_more (schemas_of ps) s (bytes_of before) (bytes_of more) (parts_spelled most _ ps before h) (spelled most _ _ _ more j))

  pub item_spelled : (most depth : ℕ) (label : PlainLabel) (item : Item) (lines : List Line) → ExplainsItem most depth label item lines
      → FrontSpells (item_type item) (bytes_of lines)
  item_spelled most depth label item lines (rule.of_value d b s ls h) = spelled most _ _ s ls h
  item_spelled most depth label item lines (rule.of_entry d b k v ls h) =
      let r = row_spelled most _ _ _ ls h in
      (Group r.0, (r.0, refl, r.1), r.2)

  pub each_spelled : (most depth : ℕ) (item : Item) (n : ℕ) (lines : List Line) → ExplainsElements most depth item n lines
      → SpellsEach (item_type item) n (bytes_of lines)
  each_spelled most depth item n lines (rule.no_elements d x) = (NoTrees, (refl, tt), refl)
  each_spelled most depth item n lines (rule.one_element d x k before more low h j) =
      let b = item_spelled most _ _ x more j in
      rw (bytes_join before more)
      (each_more (item_type x) k b.0 (bytes_of before) (bytes_of more) (each_spelled most _ x k before h) b.1 b.2)
  each_spelled most depth item n lines (rule.more_elements d x k m before line end some h at kind b) =
      rw (bytes_join before (line ∷ []), append-nil line.bytes.now)
      (each_join (item_type x) k m b.0 (bytes_of before) line.bytes.now (each_spelled most _ x k before h) b.1 b.2)

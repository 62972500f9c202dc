-- If lines explain bytes up to a part that can't be read, the bytes begin with no value. Each value before that part is the only one there.
use Rattle.std.proofs.Common.{◌≡◌, ℕ, zero, suc, ◌-◌, ◌<◌, List, [], ◌∷◌, ◌++◌, length, get_or, take, sym, ◌∙◌, ap, subst, arith, inl, inr, append_assoc, append-nil}
use Rattle.std.proofs.lemmas.List.{append_cancel_left}
use Rattle.postcard_wire.specs.Number.{SpellsNum}
use Rattle.postcard_wire.specs.Tree.{Trees, Present, Seq, Variant, NoTrees, Then, count}
use Rattle.postcard_wire.specs.Spelling.{Spells, SpellsAll}
use Rattle.postcard_wire.proofs.Delimited.{num_front}
use Rattle.postcard_shape.specs.Lists.{AreRead}
use Rattle.postcard_schema.specs.declared.schema.Schema.{Schema}
use Rattle.postcard_schema.specs.Lemmas.{content_at, no_content_at, type_of_array, type_of_enum, type_of_option}
use Rattle.postcard_schema.specs.Meaning.{MessageType, array, choice, contents, option, seq, type_of, types_of, reads, reads_at}
use Rattle.postcard_value.specs.Fronts.{FrontSpells, HasNoCount, HasNoFlag, HasNoFront, HasNoRow, HasNone, SpellsParts}
use Rattle.postcard_value.specs.TypeLaws.{type_delimited}
use Rattle.postcard_explain.specs.declared.line.Line.{Line}
use Rattle.postcard_explain.specs.Explained.{bytes_of, Opens}
use Rattle.postcard_explain.specs.Parts.{PlainLabel, Row, schemas_of, Item, item_type}
use Rattle.postcard_explain.specs.RefusedLines.{Refuses, RefusesElements, RefusesItem, RefusesParts, RefusesRow}
use Rattle.postcard_explain.specs.RefusedLines as rule
use Rattle.postcard_explain.proofs.PartLemmas.{parts_type, items_type}
use Rattle.postcard_explain.proofs.Spelled.{bytes_join, opens_nothing, each_spelled, parts_spelled}

-- ---- bytes that two readings cut in two

cut_both : (p a b q front x y rest : List ℕ) → p ≡ a ++ b → front ≡ x ++ y → p ++ q ≡ front ++ rest → a ++ (b ++ q) ≡ x ++ (y ++ rest)
cut_both p a b q front x y rest c d e =
    sym (append_assoc a b q) ∙ ap (λ z. z ++ q) (sym c) ∙ e ∙ ap (λ z. z ++ rest) d ∙ append_assoc x y rest

-- If two joined lists are equal, and so are their first parts, so are their second parts.
after_same : (a x b y : List ℕ) → a ≡ x → a ++ b ≡ x ++ y → b ≡ y
after_same a x b y same e = append_cancel_left a b y (e ∙ ap (λ z. z ++ y) (sym same))

-- ---- the next of values in a row

-- If element `i` of a row can't be read, the row can't.
row_none : (t : MessageType) (i n : ℕ) (ts us : Trees) (p q front rest : List ℕ) → i < n → AreRead i (reads t) ts → SpellsAll ts p → HasNone t q
    → AreRead n (reads t) us → SpellsAll us front → p ++ q ≡ front ++ rest → ⊥
row_none t i n NoTrees NoTrees p q front rest low a s none b r e = omega (arith, low, a.0, b.0)
row_none t i n (Then v ts) NoTrees p q front rest low a s none b r e = omega (arith, low, b.0)
row_none t i n NoTrees (Then u us) p q front rest low a s none b (x, y, f, g, d) e =
    none x (y ++ rest) (ap (λ z. z ++ q) (sym s) ∙ e ∙ ap (λ z. z ++ rest) d ∙ append_assoc x y rest) (u, b.1.0, f)
row_none t i n (Then v ts) (Then u us) p q front rest low a (k, l, h, j, c) none b (x, y, f, g, d) e =
    let both = cut_both p k l q front x y rest c d e in
    let same = (type_delimited t v u k x (l ++ q) (y ++ rest) a.1.0 b.1.0 h f both).0 in
    row_none t (i - 1) (n - 1) ts us l q y rest (omega (arith, low, a.0)) (omega (arith, a.0), a.1.1) j none (omega (arith, b.0), b.1.1) g
    (after_same k x (l ++ q) (y ++ rest) same both)

-- If a part of a tuple or a struct can't be read, the whole can't.
parts_none : (row : Row) (i : ℕ) (label : PlainLabel) (s : Schema) (p q front rest : List ℕ) → i < length row
    → (label, s) ≡ get_or row i (label, s) → SpellsParts (schemas_of (take i row)) p → HasNoFront s q → SpellsParts (schemas_of row) front
    → p ++ q ≡ front ++ rest → ⊥
parts_none [] i label s p q front rest low found a none b e = omega (arith, low)
parts_none (o ∷ row) zero label s p q front rest low found (ts, r, f) none (us, (u, more, is, k, others), g) e =
    let nothing : p ≡ [] = rw r at f in
    let j : SpellsAll (Then u more) front = rw is at g in
    let own : type_of o.1 ≡ type_of s = ap (λ (z : PlainLabel × Schema). type_of z.1) (sym found) in
    none j.0 (j.1 ++ rest) (ap (λ z. z ++ q) (sym nothing) ∙ e ∙ ap (λ z. z ++ rest) j.4 ∙ append_assoc j.0 j.1 rest)
    (u, subst (λ t. reads t u) own k, j.2)
parts_none (o ∷ row) (suc i) label s p q front rest low found (ts, (t, later, was, r, before), f) none (us, (u, more, is, k, others), g) e =
    let h : SpellsAll (Then t later) p = rw was at f in
    let j : SpellsAll (Then u more) front = rw is at g in
    let both = cut_both p h.0 h.1 q front j.0 j.1 rest h.4 j.4 e in
    let same = (type_delimited (type_of o.1) t u h.0 j.0 (h.1 ++ q) (j.1 ++ rest) r k h.2 j.2 both).0 in
    parts_none row i label s h.1 q j.1 rest (omega (arith, low)) found (later, before, h.3) none (more, others, j.3)
    (after_same h.0 j.0 (h.1 ++ q) (j.1 ++ rest) same both)

-- ---- the first node of a value

-- Without a first byte of 0 or 1, there is no option.
flag_none : (t : MessageType) (bytes front rest : List ℕ) → HasNoFlag bytes → bytes ≡ front ++ rest → FrontSpells (option t) front → ⊥
flag_none t bytes front rest none cut (tree, inl is, f) =
    let here : front ≡ 0 ∷ [] = rw is at f in
    (none rest).0 (cut ∙ ap (λ z. z ++ rest) here)
flag_none t bytes front rest none cut (tree, inr (u, is, r), f) =
    let j : Spells (Present u) front = rw is at f in
    (none (j.1 ++ rest)).1 (cut ∙ ap (λ z. z ++ rest) (j.4 ∙ ap (λ z. z ++ j.1) j.2))

-- Equal lists have equal first elements.
heads : (a b : ℕ) (p q : List ℕ) → a ∷ p ≡ b ∷ q → a ≡ b
heads a b p q e = cc

-- If its value can't be read, the option can't.
present_none : (t : MessageType) (q front rest : List ℕ) → HasNone t q → 1 ∷ q ≡ front ++ rest → FrontSpells (option t) front → ⊥
present_none t q front rest none cut (tree, inl is, f) =
    let here : front ≡ 0 ∷ [] = rw is at f in
    let both : 1 ∷ q ≡ 0 ∷ rest = cut ∙ ap (λ z. z ++ rest) here in
    omega (arith, heads 1 0 q rest both)
present_none t q front rest none cut (tree, inr (u, is, r), f) =
    let j : Spells (Present u) front = rw is at f in
    let both : 1 ∷ q ≡ 1 ∷ (j.1 ++ rest) = cut ∙ ap (λ z. z ++ rest) (j.4 ∙ ap (λ z. z ++ j.1) j.2) in
    let here : q ≡ j.1 ++ rest = cc in
    none j.1 rest here (u, r, j.3)

-- Without a count, there is no list.
count_none : (t : MessageType) (bytes front rest : List ℕ) → HasNoCount bytes → bytes ≡ front ++ rest → FrontSpells (seq t) front → ⊥
count_none t bytes front rest none cut (tree, (ts, is, low, each), f) =
    let j : Spells (Seq ts) front = rw is at f in
    none (count ts) j.0 (j.1 ++ rest) low j.2 (cut ∙ ap (λ z. z ++ rest) j.4 ∙ append_assoc j.0 j.1 rest)

-- If its elements can't be read, the list can't.
list_none : (t : MessageType) (n : ℕ) (p q front rest : List ℕ) → SpellsNum 64 n p → HasNoRow t n q → p ++ q ≡ front ++ rest → FrontSpells (seq t) front → ⊥
list_none t n p q front rest num none cut (tree, (ts, is, low, each), f) =
    let j : Spells (Seq ts) front = rw is at f in
    let both : p ++ q ≡ j.0 ++ (j.1 ++ rest) = cut ∙ ap (λ z. z ++ rest) j.4 ∙ append_assoc j.0 j.1 rest in
    let same = num_front 64 n (count ts) p j.0 q (j.1 ++ rest) num j.2 both in
    none j.1 rest (after_same p j.0 q (j.1 ++ rest) same.0 both) (ts, (sym same.1, each), j.3)

-- The line that opens a value with parts has no bytes.
opened_bytes : (depth : ℕ) (label : PlainLabel) (inner : ℕ) (head more : List Line) → Opens depth label inner head → bytes_of (head ++ more) ≡ bytes_of more
opened_bytes depth label inner head more o = bytes_join head more ∙ ap (λ z. z ++ bytes_of more) (opens_nothing depth label inner head o)

-- ---- lines up to a part

mutual
  pub refused_none : (most depth : ℕ) (label : PlainLabel) (s : Schema) (lines : List Line) → Refuses most depth label s lines
      → HasNoFront s (bytes_of lines)
  refused_none most depth label s lines (rule.no_leaf d b x line l is at kind none) = λ front rest cut f.
      none front rest (sym (append-nil line.bytes.now) ∙ cut) f
  refused_none most depth label s lines (rule.no_flag d b x line content is at kind none) = λ front rest cut f.
      flag_none (type_of content.value) line.bytes.now front rest none (sym (append-nil line.bytes.now) ∙ cut) (rw (is, type_of_option content) at f)
  refused_none most depth label s lines (rule.no_count d b x line item has at kind none) = λ front rest cut f.
      count_none (item_type item) line.bytes.now front rest none (sym (append-nil line.bytes.now) ∙ cut) (rw (items_type x item has) at f)
  refused_none most depth label s lines (rule.no_index d b x line variants is at kind none) = λ front rest cut f.
      let k : FrontSpells (choice (types_of (contents variants.items))) front = rw (is, type_of_enum variants) at f in
      let v = k.1 in
      let j : Spells (Variant v.0 v.1) front = rw v.2 at k.2 in
      no_content_at variants.items v.0 v.1
      (λ low. none v.0 j.0 (j.1 ++ rest) low v.3 j.2
      (sym (append-nil line.bytes.now) ∙ cut ∙ ap (λ z. z ++ rest) j.4 ∙ append_assoc j.0 j.1 rest))
      v.4
  refused_none most depth label s lines (rule.in_present d b x line content more is at kind e h) = λ front rest cut f.
      present_none (type_of content.value) (bytes_of more) front rest (refused_none most _ _ _ more h) (ap (λ z. z ++ bytes_of more) (sym e) ∙ cut)
      (rw (is, type_of_option content) at f)
  refused_none most depth label s lines (rule.in_list d b x line item n more has at kind low num h) = λ front rest cut f.
      list_none (item_type item) n line.bytes.now (bytes_of more) front rest num (elements_refused most _ item n more h) cut (rw (items_type x item has) at f)
  refused_none most depth label s lines (rule.in_array d b x element n inner head more is o h) = λ front rest cut f.
      let k : FrontSpells (array n (type_of element.value)) front = rw (is, type_of_array element n) at f in
      let v = k.1 in
      elements_refused most _ _ n more h front rest (sym (opened_bytes _ _ _ head more o) ∙ cut) (v.0, (v.2, v.3), rw v.1 at k.2)
  refused_none most depth label s lines (rule.in_parts d b x row ls has h) = λ front rest cut f.
      let k = rw (parts_type x row has) at f in
      let v = k.1 in
      row_refused most _ _ row ls h front rest cut (v.0, v.2, rw v.1 at k.2)
  refused_none most depth label s lines (rule.in_variant d b x line variants i own more is at low found kind few num h) = λ front rest cut f.
      let k : FrontSpells (choice (types_of (contents variants.items))) front = rw (is, type_of_enum variants) at f in
      let v = k.1 in
      let j : Spells (Variant v.0 v.1) front = rw v.2 at k.2 in
      let both : line.bytes.now ++ bytes_of more ≡ j.0 ++ (j.1 ++ rest) = cut ∙ ap (λ z. z ++ rest) j.4 ∙ append_assoc j.0 j.1 rest in
      let same = num_front 32 i v.0 line.bytes.now j.0 (bytes_of more) (j.1 ++ rest) num j.2 both in
      let at_own : reads_at (types_of (contents variants.items)) i v.1 = subst (λ m. reads_at (types_of (contents variants.items)) m v.1) (sym same.1) v.4 in
      refused_none most _ _ _ more h j.1 rest (after_same line.bytes.now j.0 (bytes_of more) (j.1 ++ rest) same.0 both)
      (v.1, subst (λ P. P v.1) (content_at variants.items i own low found) at_own, j.3)

  row_refused : (most depth : ℕ) (label : PlainLabel) (row : Row) (lines : List Line) → RefusesRow most depth label row lines → (front rest : List ℕ)
      → bytes_of lines ≡ front ++ rest → SpellsParts (schemas_of row) front → ⊥
  row_refused most depth label row lines (rule.in_row d b r inner head more o h) = λ front rest cut f.
      parts_refused most _ r more h front rest (sym (opened_bytes _ _ _ head more o) ∙ cut) f

  parts_refused : (most depth : ℕ) (row : Row) (lines : List Line) → RefusesParts most depth row lines → (front rest : List ℕ)
      → bytes_of lines ≡ front ++ rest → SpellsParts (schemas_of row) front → ⊥
  parts_refused most depth row lines (rule.in_part d r i b s before more low found h j) = λ front rest cut f.
      parts_none r i b s (bytes_of before) (bytes_of more) front rest low found (parts_spelled most _ (take i r) before h) (refused_none most _ _ s more j) f
      (sym (bytes_join before more) ∙ cut)

  item_refused : (most depth : ℕ) (label : PlainLabel) (item : Item) (lines : List Line) → RefusesItem most depth label item lines
      → HasNone (item_type item) (bytes_of lines)
  item_refused most depth label item lines (rule.in_value d b s ls h) = refused_none most _ _ s ls h
  item_refused most depth label item lines (rule.in_entry d b k v ls h) = λ front rest cut f.
      let w = f.1 in
      row_refused most _ _ _ ls h front rest cut (w.0, w.2, rw w.1 at f.2)

  elements_refused : (most depth : ℕ) (item : Item) (n : ℕ) (lines : List Line) → RefusesElements most depth item n lines
      → HasNoRow (item_type item) n (bytes_of lines)
  elements_refused most depth item n lines (rule.in_element d x m i before more low h j) = λ front rest cut f.
      let b = each_spelled most _ x i before h in
      row_none (item_type x) i m b.0 f.0 (bytes_of before) (bytes_of more) front rest low b.1 b.2 (item_refused most _ _ x more j) f.1 f.2
      (sym (bytes_join before more) ∙ cut)

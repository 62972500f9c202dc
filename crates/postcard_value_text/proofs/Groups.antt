-- Reading tuples, structs with their fields, and entries of maps.
use Rattle.std.proofs.Common.{◌≡◌, ℕ, zero, suc, ◌<◌, Bool, true, false, List, [], ◌∷◌, length, get_or, string_bytes, refl, sym, ap, ap₂, subst, ◌∙◌, arith, inl, inr}
use Rattle.std.specs.Prelude.{Result, Ok, Err}
use Rattle.std.specs.Bool.{◌==◌}
use Rattle.std.specs.Char.{is_ascii_whitespace}
use Rattle.std.proofs.Math.Dec.{eqb-suc-zero}
use Rattle.postcard_wire.specs.Tree.{Tree, Trees, NoTrees, trees}
use Rattle.postcard_wire.specs.Tree as nodes
use Rattle.postcard_wire.specs.Reading.{IsEnd, IsGroup, IsThen}
use Rattle.postcard_schema_text.specs.Fronts.{follows_type}
use Rattle.postcard_schema_text.specs.FrontLemmas.{takes_split}
use Rattle.postcard_schema_text.specs.Phrases.{takes_two}
use Rattle.postcard_value.specs.declared.value.Value.{Value}
use Rattle.postcard_value_text.specs.{IsMaybe, IsSign, Named, Schema, TakesPhrase, Then, contents, fields_of, layout_of, layouts_of, reads, reads_all}
use Rattle.postcard_value_text.specs.{tree, type_of, types_of}
use Rattle.postcard_value_text.specs.declared.error.Stop.{Stop}
use Rattle.postcard_value_text.specs.Accepted.{AreNamed, FollowsValue, HasDistinctNames, HaveDistinctNames, ReadsText, ReadsTree}
use Rattle.postcard_value_text.specs.Spelled.{Phrase, Speller, IsFieldName, Row, Unless, are_none, AreClosed, AreEnclosed, SpellsEntry, SpellsField, SpellsGroup, SpellsTree, field_phrases, part_phrases}
use Rattle.postcard_value_text.proofs.Fronts.{sign_follows, none_taken}
use Rattle.postcard_value_text.proofs.Items.{row}
use Rattle.postcard_value_text.proofs.Parts.{AllAre, ReadsParts, phrases_by}
use Rattle.postcard_value_text.proofs.Readers.{Took, Misses, after_phrase, before_phrase, missed_after, phrase_missed, refused, refused_before, spelled_as, took_sign, fails_with}

-- ---- the brackets around parts

unless_follows : (none : Bool) (closing : ℕ) (a r : List ℕ) → follows_type closing ≡ true → TakesPhrase (Then (Unless none (IsMaybe 44)) (IsSign closing)) a r → FollowsValue a
unless_follows true closing a r passes h =
    let k = takes_split (Unless true (IsMaybe 44)) (IsSign closing) a r h in
    sign_follows closing a r passes (subst (λ t. TakesPhrase (IsSign closing) t r) (sym (none_taken a k.0 k.1)) k.2)
unless_follows false closing a r passes h = by (takes_split (Unless false (IsMaybe 44)) (IsSign closing) a r h)
  where
    by : (m : List ℕ) × TakesPhrase (IsMaybe 44) a m × TakesPhrase (IsSign closing) m r → FollowsValue a
    by (m, (front, inl none, whole), close) = sign_follows closing a r passes (subst (λ t. TakesPhrase (IsSign closing) t r) (sym (none_taken a m (front, none, whole))) close)
    by (m, (front, inr sign, whole), close) = sign_follows 44 a m refl (front, sign, whole)

-- The bracket that stands after the last part, perhaps after a `,`.
abbrev pub Closes : ℕ → Bool → Phrase
Closes closing none = Then (Unless none (IsMaybe 44)) (IsSign closing)

-- Values of the parts are none if and only if there is no phrase.
none_read : {A : Type 0} (R : A → Tree → Type 0) (S : A → Speller) (xs : List A) (vs : List Value) → AllAre R xs (row vs) → are_none (phrases_by S xs (row vs)) ≡ (length vs == 0)
none_read R S [] [] is = refl
none_read R S [] (u ∷ us) is = absurd (cc is)
none_read R S (y ∷ ys) [] (s, ss, e, is, each) = absurd (cc e)
none_read R S (y ∷ ys) (u ∷ us) is = sym (eqb-suc-zero (length us))

module _ {A : Type 0} (N : Type 0) (R : A → Tree → Type 0) (S : A → Speller) (xs : List A) (closing : ℕ) (passes : follows_type closing ≡ true) where
  after_parts : (u : Trees) (x y : List ℕ) → TakesPhrase (Closes closing (are_none (phrases_by S xs u))) x y → FollowsValue x
  after_parts u x y h = unless_follows (are_none (phrases_by S xs u)) closing x y passes h

  parts_closed : {a m b : List ℕ} {vs : List Value} → ReadsParts N R S true xs a (Ok vs) m → Took N (Closes closing (length vs == 0)) m b
      → ReadsText row N (AllAre R xs) (λ ts. AreClosed closing (phrases_by S xs ts)) a (Ok vs) b
  parts_closed {a} {m} {b} {vs} h q =
      before_phrase row N (AllAre R xs) (λ ts. Row (phrases_by S xs ts)) (λ ts. Closes closing (are_none (phrases_by S xs ts))) after_parts h
      (subst (λ none. Took N (Closes closing none) m b) (sym (none_read R S xs vs h.value)) q)

  parts_unclosed : {a m b : List ℕ} {vs : List Value} (e : Stop) → ReadsParts N R S true xs a (Ok vs) m → Misses (Closes closing (length vs == 0)) m
      → ReadsText row N (AllAre R xs) (λ ts. AreClosed closing (phrases_by S xs ts)) a (Err e) b
  parts_unclosed {a} {m} {b} {vs} e h none =
      missed_after row N (AllAre R xs) (λ ts. Row (phrases_by S xs ts)) (λ ts. Closes closing (are_none (phrases_by S xs ts))) after_parts e h
      (subst (λ empty. Misses (Closes closing empty) m) (sym (none_read R S xs vs h.value)) none)

  parts_refused : {a b : List ℕ} {e : Stop} → ReadsParts N R S true xs a (Err e) b → ReadsText row N (AllAre R xs) (λ ts. AreClosed closing (phrases_by S xs ts)) a (Err e) b
  parts_refused h = refused_before row N (AllAre R xs) (λ ts. Row (phrases_by S xs ts)) (λ ts. Closes closing (are_none (phrases_by S xs ts))) after_parts h

enclosed_as : (parts others : Trees → List Phrase) → ((ts : Trees) → parts ts ≡ others ts) → (opening closing : ℕ) (t : Tree) (ts : Trees) (a x : List ℕ) → t ≡ nodes.Group ts
    → TakesPhrase (SpellsGroup opening closing others t) a x → TakesPhrase (AreEnclosed opening closing (parts ts)) a x
enclosed_as parts others same opening closing t ts a x is h =
    subst (λ Ps. TakesPhrase (AreEnclosed opening closing Ps) a x) (sym (same ts)) (subst (λ u. TakesPhrase (SpellsGroup opening closing others u) a x) is h)

-- Parts between brackets are a group. The sets of its parts and their phrases are also those of a type.
module _ {A : Type 0} {N : Type 0} (R : A → Tree → Type 0) (S : A → Speller) (xs : List A) {Q : Trees → Type 0} {others : Trees → List Phrase} (sets : AllAre R xs ≡ Q)
    (same : (ts : Trees) → phrases_by S xs ts ≡ others ts) (opening closing : ℕ) (black : is_ascii_whitespace opening ≡ false) (passes : follows_type closing ≡ true) {a : List ℕ} where
  refused_whole : {b : List ℕ} {e : Stop} → ReadsText row N (AllAre R xs) (λ ts. AreEnclosed opening closing (phrases_by S xs ts)) a (Err e) b
      → ReadsTree N (IsGroup Q) (SpellsGroup opening closing others) a (Err e) b
  refused_whole h = fails_with (λ names t x (ts, is, each) k goes.
      h.accepted names ts x (subst (λ P. P ts) (sym sets) each) (enclosed_as (phrases_by S xs) others same opening closing t ts a x is k) goes)

  pub group_unopened : {b : List ℕ} (e : Stop) → Misses (IsSign opening) a → ReadsTree N (IsGroup Q) (SpellsGroup opening closing others) a (Err e) b
  group_unopened e none = refused_whole (phrase_missed row N (AllAre R xs) (λ ts. AreClosed closing (phrases_by S xs ts)) (IsSign opening) e (λ names. none))

  module _ {m : List ℕ} (begun : TakesPhrase (IsSign opening) a m) where
    inside : {b : List ℕ} (r : Result (List Value) Stop) → ReadsText row N (AllAre R xs) (λ ts. AreClosed closing (phrases_by S xs ts)) m r b
        → ReadsText row N (AllAre R xs) (λ ts. AreEnclosed opening closing (phrases_by S xs ts)) a r b
    inside r h = after_phrase row N (AllAre R xs) (λ ts. AreClosed closing (phrases_by S xs ts)) (IsSign opening) r (took_sign opening black begun) h

    pub group_refused : {b : List ℕ} {e : Stop} → ReadsParts N R S true xs m (Err e) b → ReadsTree N (IsGroup Q) (SpellsGroup opening closing others) a (Err e) b
    group_refused {b} {e} h = refused_whole (inside (Err e) (parts_refused N R S xs closing passes h))

    module _ {n : List ℕ} {vs : List Value} (h : ReadsParts N R S true xs m (Ok vs) n) where
      pub group_unclosed : {b : List ℕ} (e : Stop) → Misses (Closes closing (length vs == 0)) n → ReadsTree N (IsGroup Q) (SpellsGroup opening closing others) a (Err e) b
      group_unclosed e none = refused_whole (inside (Err e) (parts_unclosed N R S xs closing passes e h none))

      pub group_read : {b : List ℕ} (v : Value) → tree v ≡ nodes.Group (row vs) → Took N (Closes closing (length vs == 0)) n b → ReadsTree N (IsGroup Q) (SpellsGroup opening closing others) a (Ok v) b
      group_read {b} v seen q =
          let g = inside (Ok vs) (parts_closed N R S xs closing passes h q) in
          record {
            value = (row vs, seen, subst (λ P. P (row vs)) sets g.value);
            spelled = subst (λ t. TakesPhrase (SpellsGroup opening closing others t) a b) (sym seen) (subst (λ Ps. TakesPhrase (AreEnclosed opening closing Ps) a b) (same (row vs)) g.spelled);
            accepted = λ names t x (ts, is, each) k goes.
                let got = g.accepted names ts x (subst (λ P. P ts) (sym sets) each) (enclosed_as (phrases_by S xs) others same opening closing t ts a x is k) goes in
                (is ∙ ap nodes.Group got.0 ∙ sym seen, got.1);
          }

-- ---- tuples and structs

-- The trees of a part's type.
abbrev pub part_reads : Schema → Tree → Type 0
part_reads s = reads (type_of s)

-- Which texts denote a part.
abbrev pub part_spells : Schema → Speller
part_spells s = SpellsTree (layout_of s)

-- The trees of a field's type.
abbrev pub field_reads : Named Schema → Tree → Type 0
field_reads n = reads (type_of n.content)

-- Which texts denote a field: its name, `:` and its value.
abbrev pub field_spells : Named Schema → Speller
field_spells n = SpellsField (string_bytes n.name) (SpellsTree (layout_of n.content))

-- The trees of the parts in a row are those of the row of their types.
pub part_sets : (ss : List Schema) → AllAre part_reads ss ≡ reads_all (types_of ss)
part_sets [] = refl
part_sets (s ∷ ss) = ap (IsThen (reads (type_of s))) (part_sets ss)

-- The texts of the parts in a row are those of the tuple's parts.
pub same_parts : (ss : List Schema) (ts : Trees) → phrases_by part_spells ss ts ≡ part_phrases (layouts_of ss) ts
same_parts [] NoTrees = refl
same_parts [] (nodes.Then t ts) = refl
same_parts (s ∷ ss) NoTrees = refl
same_parts (s ∷ ss) (nodes.Then t ts) = ap (λ Ps. SpellsTree (layout_of s) t ∷ Ps) (same_parts ss ts)

-- The trees of the fields in a row are those of the row of their types.
pub field_sets : (ns : List (Named Schema)) → AllAre field_reads ns ≡ reads_all (types_of (contents ns))
field_sets [] = refl
field_sets (n ∷ ns) = ap (IsThen (reads (type_of n.content))) (field_sets ns)

-- The texts of the fields in a row are those of the struct's fields.
pub same_fields : (ns : List (Named Schema)) (ts : Trees) → phrases_by field_spells ns ts ≡ field_phrases (fields_of ns) ts
same_fields [] NoTrees = refl
same_fields [] (nodes.Then t ts) = refl
same_fields (n ∷ ns) NoTrees = refl
same_fields (n ∷ ns) (nodes.Then t ts) = ap (λ Ps. field_spells n t ∷ Ps) (same_fields ns ts)

-- The names of parts, and of a field, tell values apart if those of all do.
pub distinct_at : (ss : List Schema) (i : ℕ) (s : Schema) → i < length ss → s ≡ get_or ss i s → HaveDistinctNames (layouts_of ss) → HasDistinctNames (layout_of s)
distinct_at [] i s low here names = absurd (omega (arith, low))
distinct_at (u ∷ us) zero s low here names = subst HasDistinctNames (ap layout_of (sym here)) names.0
distinct_at (u ∷ us) (suc i) s low here names = distinct_at us i s (omega (arith, low)) here names.1

pub named_at : (ns : List (Named Schema)) (i : ℕ) (n : Named Schema) → i < length ns → n ≡ get_or ns i n → AreNamed (fields_of ns)
    → (0 < length (string_bytes n.name)) × HasDistinctNames (layout_of n.content)
named_at [] i n low here names = absurd (omega (arith, low))
named_at (m ∷ ms) zero n low here names = rw here (names.0, names.1)
named_at (m ∷ ms) (suc i) n low here names = named_at ms i n (omega (arith, low)) here names.2

-- ---- fields

then_left : (P Q T : Phrase) (a d : List ℕ) → TakesPhrase (Then P (Then Q T)) a d → TakesPhrase (Then (Then P Q) T) a d
then_left P Q T a d h =
    let one = takes_split P (Then Q T) a d h in
    let two = takes_split Q T one.0 d one.2 in
    takes_two (Then P Q) T a two.0 d (takes_two P Q a one.0 two.0 one.1 two.1) two.2

then_right : (P Q T : Phrase) (a d : List ℕ) → TakesPhrase (Then (Then P Q) T) a d → TakesPhrase (Then P (Then Q T)) a d
then_right P Q T a d h =
    let one = takes_split (Then P Q) T a d h in
    let two = takes_split P Q a one.0 one.1 in
    takes_two P (Then Q T) a two.0 d two.1 (takes_two Q T two.0 one.0 d two.2 one.2)

-- The name of a field and `:`.
abbrev pub IsLabel : List ℕ → Phrase
IsLabel name = Then (IsFieldName name) (IsSign 58)

module _ {N : Type 0} {R : Tree → Type 0} {S : Speller} (name : List ℕ) {a b : List ℕ} where
  labelled : (r : Result Value Stop) → ReadsTree N R (λ t. Then (IsLabel name) (S t)) a r b → ReadsTree N R (SpellsField name S) a r b
  labelled r h =
      spelled_as tree N R (λ t. Then (IsLabel name) (S t)) (SpellsField name S) r (λ t x k. then_right (IsFieldName name) (IsSign 58) (S t) a x k)
      (λ t x k. then_left (IsFieldName name) (IsSign 58) (S t) a x k) h

  pub field_read : {m : List ℕ} (r : Result Value Stop) → Took N (IsLabel name) a m → ReadsTree N R S m r b → ReadsTree N R (SpellsField name S) a r b
  field_read r p h = labelled r (after_phrase tree N R S (IsLabel name) r p h)

  pub label_missed : (e : Stop) → (N → Misses (IsLabel name) a) → ReadsTree N R (SpellsField name S) a (Err e) b
  label_missed e none = labelled (Err e) (phrase_missed tree N R S (IsLabel name) e none)

-- ---- entries of maps

-- The tree is an entry: a key of K and a value of V.
abbrev pub IsEntry : (Tree → Type 0) → (Tree → Type 0) → Tree → Type 0
IsEntry K V = IsGroup (IsThen K (IsThen V IsEnd))

-- What the entries of a map with these types of keys and values are, and which texts denote them.
abbrev pub entry_names : Schema → Schema → Type 0
entry_names x y = HasDistinctNames (layout_of x) × HasDistinctNames (layout_of y)

-- The trees of an entry of a map.
abbrev pub entry_reads : Schema → Schema → Tree → Type 0
entry_reads x y = IsEntry (reads (type_of x)) (reads (type_of y))

abbrev pub entry_spells : Schema → Schema → Speller
entry_spells x y = SpellsEntry (SpellsTree (layout_of x)) (SpellsTree (layout_of y))

-- The sign between a key and its value: `=>`.
abbrev pub IsArrow : Phrase
IsArrow = Then (IsSign 61) (IsSign 62)

-- The key and the value of an entry, and where their texts are.
record EntryFront (K V : Tree → Type 0) (P Q : Speller) (t : Tree) (a x : List ℕ) : Type 0 where
  key : Tree
  value : Tree
  mid : List ℕ
  start : List ℕ
  whole : t ≡ nodes.Group (nodes.Then key (nodes.Then value NoTrees))
  is : K key
  also : V value
  taken : TakesPhrase (P key) a mid
  arrow : TakesPhrase IsArrow mid start
  left : TakesPhrase (Q value) start x
  goes : FollowsValue mid

entry_front : (K V : Tree → Type 0) (P Q : Speller) (t : Tree) (a x : List ℕ) → IsEntry K V t → TakesPhrase (SpellsEntry P Q t) a x → EntryFront K V P Q t a x
entry_front K V P Q t a x (ts, e, (k, us, f, is, (v, none, g, also, end))) h =
    let whole : t ≡ nodes.Group (nodes.Then k (nodes.Then v NoTrees)) = e ∙ ap nodes.Group (f ∙ ap (nodes.Then k) (g ∙ ap (nodes.Then v) end)) in
    let one = takes_split (P k) (Then (IsSign 61) (Then (IsSign 62) (Q v))) a x (subst (λ s. TakesPhrase (SpellsEntry P Q s) a x) whole h) in
    let two = takes_split IsArrow (Q v) one.0 x (then_left (IsSign 61) (IsSign 62) (Q v) one.0 x one.2) in
    let sign = takes_split (IsSign 61) (IsSign 62) one.0 two.0 two.1 in
    record { key = k; value = v; mid = one.0; start = two.0; whole = whole; is = is; also = also; taken = one.1; arrow = two.1; left = two.2; goes = sign_follows 61 one.0 sign.0 refl sign.1 }

module _ {M N : Type 0} {K V : Tree → Type 0} (P Q : Speller) {a : List ℕ} where
  pub key_refused : {m b : List ℕ} {e : Stop} → ReadsTree M K P a (Err e) m → ReadsTree (M × N) (IsEntry K V) (SpellsEntry P Q) a (Err e) b
  key_refused h = fails_with (λ names t x is k goes. let f = entry_front K V P Q t a x is k in h.accepted names.0 f.key f.mid f.is f.taken f.goes)

  module _ {m : List ℕ} {k : Value} (one : ReadsTree M K P a (Ok k) m) where
    pub arrow_missed : {b : List ℕ} (e : Stop) → Misses IsArrow m → ReadsTree (M × N) (IsEntry K V) (SpellsEntry P Q) a (Err e) b
    arrow_missed e none = refused (λ names t x is h goes.
        let f = entry_front K V P Q t a x is h in
        let got = one.accepted names.0 f.key f.mid f.is f.taken f.goes in
        none f.start (subst (λ y. TakesPhrase IsArrow y f.start) (sym got.1) f.arrow))

    module _ {n : List ℕ} (arrow : Took (M × N) IsArrow m n) where
      -- The value of the entry that is next begins after the arrow that was taken.
      second : M × N → (t : Tree) (x : List ℕ) (f : EntryFront K V P Q t a x) → (f.key ≡ tree k) × TakesPhrase (Q f.value) n x
      second names t x f =
          let got = one.accepted names.0 f.key f.mid f.is f.taken f.goes in
          let at : n ≡ f.start = arrow.only names f.start (subst (λ y. TakesPhrase IsArrow y f.start) (sym got.1) f.arrow) in
          (got.0, subst (λ y. TakesPhrase (Q f.value) y x) (sym at) f.left)

      pub value_refused : {l b : List ℕ} {e : Stop} → ReadsTree N V Q n (Err e) l → ReadsTree (M × N) (IsEntry K V) (SpellsEntry P Q) a (Err e) b
      value_refused h = fails_with (λ names t x is s goes.
          let f = entry_front K V P Q t a x is s in h.accepted names.1 f.value x f.also (second names t x f).1 goes)

      pub entry_read : {b : List ℕ} {v : Value} (w : Value) → tree w ≡ nodes.Group (trees (tree k ∷ tree v ∷ [])) → ReadsTree N V Q n (Ok v) b
          → ReadsTree (M × N) (IsEntry K V) (SpellsEntry P Q) a (Ok w) b
      entry_read {b} {v} w seen h = record {
        value = (trees (tree k ∷ tree v ∷ []), seen, (tree k, nodes.Then (tree v) NoTrees, refl, one.value, (tree v, NoTrees, refl, h.value, refl)));
        spelled = subst (λ t. TakesPhrase (SpellsEntry P Q t) a b) (sym seen)
            (takes_two (P (tree k)) (Then (IsSign 61) (Then (IsSign 62) (Q (tree v)))) a m b one.spelled (then_right (IsSign 61) (IsSign 62) (Q (tree v)) m b (takes_two IsArrow (Q (tree v)) m n b arrow.taken h.spelled)));
        accepted = λ names t x is s goes.
            let f = entry_front K V P Q t a x is s in
            let k = second names t x f in
            let got = h.accepted names.1 f.value x f.also k.1 goes in
            (f.whole ∙ ap₂ (λ x y. nodes.Group (nodes.Then x (nodes.Then y NoTrees))) k.0 got.0 ∙ sym seen, got.1);
      }

-- The words of a value, part by part.
use Rattle.std.proofs.Common.{◌≡◌, ℕ, zero, suc, ◌+◌, ◌<◌, ◌≤◌, List, [], ◌∷◌, ◌++◌, length, get_or, drop, map, refl, sym, ap, ◌∙◌, arith, append_assoc, append-nil}
use Rattle.std.proofs.lemmas.List.{drop_more, length-map, map-append}
use Rattle.std.proofs.Math.ListN.{drop_of_length-le}
use Rattle.postcard_wire.specs.Tree.{Tree, Group, Seq, Then, count, trees}
use Rattle.postcard_schema.specs.declared.schema.Named.{Named}
use Rattle.postcard_schema.specs.declared.schema.Schema.{Schema}
use Rattle.postcard_schema.specs.Meaning.{MessageType, contents, entry_of, type_of, types_of}
use Rattle.postcard_value.specs.Tree.{tree}
use Rattle.postcard_value.specs.declared.value.Value.{Value}
use Rattle.postcard_compat.specs.Telling.{Appends, IsPair, word_of, words_of}
use Rattle.postcard_compat.specs.Said.{Word, Saying, Count, End, each_said, elements_said, list_said, said, said_all, said_at}
use Rattle.postcard_compat.specs.declared.word.Word.{Word as Spoken}

-- ---- Words one after another

-- Pushing a word appends just that word.
pub pushed : (old new : List Spoken) (w : Spoken) → new ≡ old ++ w ∷ [] → Appends old new (word_of w ∷ [])
pushed old new w e = ap words_of e ∙ map-append word_of old (w ∷ [])

-- To append words and then more appends both.
pub appends_then : (a b c : List Spoken) (x y : List Word) → Appends a b x → Appends b c y → Appends a c (x ++ y)
appends_then a b c x y e f = f ∙ (ap (λ ws. ws ++ y) e ∙ append_assoc (words_of a) x y)

-- A loop over parts began with the words `start` and has reached `now`. The words of the parts left complete those of all.
abbrev pub Going : List Spoken → List Spoken → List Word → List Word → Type 0
Going start now left all = words_of now ++ left ≡ words_of start ++ all

-- The words of one part more, and those of the parts then left, complete those of all.
pub going_on : (start now next : List Spoken) (x left all : List Word) → Going start now (x ++ left) all → Appends now next x
    → Going start next left all
going_on start now next x left all h e = ap (λ ws. ws ++ left) e ∙ (append_assoc (words_of now) x left ∙ h)

-- Once no part is left, the words are complete.
pub going_ends : (start now : List Spoken) (left all : List Word) → Going start now left all → left ≡ [] → Appends start now all
going_ends start now left all h e = sym (append-nil (words_of now)) ∙ (ap (λ ws. words_of now ++ ws) (sym e) ∙ h)

-- ---- Items

cut : {A : Type 0} (xs : List A) (k : ℕ) (x : A) → k < length xs → x ≡ get_or xs k x → drop k xs ≡ x ∷ drop (k + 1) xs
cut xs k x low is = drop_more xs k x low ∙ ap (λ y. y ∷ drop (k + 1) xs) (sym is)

module _ (f : Saying) (items : List Value) where
  abbrev pub each_left : ℕ → List Word
  each_left k = each_said f (trees (map tree (drop k items)))

  abbrev pub elements_left : ℕ → List Word
  elements_left k = elements_said f (trees (map tree (drop k items)))

  module _ (k : ℕ) (x : Value) (low : k < length items) (is : x ≡ get_or items k x) where
    pub each_next : (start now next : List Spoken) (all : List Word) → Going start now (each_left k) all → Appends now next (f (tree x) ++ End ∷ [])
        → Going start next (each_left (k + 1)) all
    each_next start now next all h e =
        let more = each_left (k + 1) in
        let split : each_left k ≡ (f (tree x) ++ End ∷ []) ++ more =
        ap (λ xs. each_said f (trees (map tree xs))) (cut items k x low is) ∙ sym (append_assoc (f (tree x)) (End ∷ []) more) in
        going_on start now next (f (tree x) ++ End ∷ []) more all (ap (λ ws. words_of now ++ ws) (sym split) ∙ h) e

    pub element_next : (start now next : List Spoken) (all : List Word) → Going start now (elements_left k) all → Appends now next (f (tree x))
        → Going start next (elements_left (k + 1)) all
    element_next start now next all h e =
        let split : elements_left k ≡ f (tree x) ++ elements_left (k + 1) = ap (λ xs. elements_said f (trees (map tree xs))) (cut items k x low is) in
        going_on start now next (f (tree x)) (elements_left (k + 1)) all (ap (λ ws. words_of now ++ ws) (sym split) ∙ h) e

  pub each_over : (k : ℕ) → length items ≤ k → each_left k ≡ []
  each_over k high = ap (λ xs. each_said f (trees (map tree xs))) (drop_of_length-le items high)

  pub elements_over : (k : ℕ) → length items ≤ k → elements_left k ≡ []
  elements_over k high = ap (λ xs. elements_said f (trees (map tree xs))) (drop_of_length-le items high)

-- ---- Parts

-- What the parts from this index on say.
abbrev pub parts_left : List Schema → List Value → ℕ → List Word
parts_left parts items k = said_all (types_of (drop k parts)) (trees (map tree (drop k items)))

pub part_next : (parts : List Schema) (items : List Value) (k : ℕ) (part : Schema) (x : Value) → k < length parts → part ≡ get_or parts k part
    → k < length items → x ≡ get_or items k x → (start now next : List Spoken) (all : List Word) → Going start now (parts_left parts items k) all
    → Appends now next (said (type_of part) (tree x)) → Going start next (parts_left parts items (k + 1)) all
part_next parts items k part x low is below at start now next all h e =
    let one = said (type_of part) (tree x) in
    let first : parts_left parts items k ≡ said_all (types_of (part ∷ drop (k + 1) parts)) (trees (map tree (drop k items))) =
    ap (λ ps. said_all (types_of ps) (trees (map tree (drop k items)))) (cut parts k part low is) in
    let split : parts_left parts items k ≡ one ++ parts_left parts items (k + 1) =
    first ∙ ap (λ xs. said_all (types_of (part ∷ drop (k + 1) parts)) (trees (map tree xs))) (cut items k x below at) in
    going_on start now next one (parts_left parts items (k + 1)) all (ap (λ ws. words_of now ++ ws) (sym split) ∙ h) e

pub parts_over : (parts : List Schema) (items : List Value) (k : ℕ) → length parts ≤ k → parts_left parts items k ≡ []
parts_over parts items k high = ap (λ ps. said_all (types_of ps) (trees (map tree (drop k items)))) (drop_of_length-le parts high)

-- What the variant at an index says.
pub said_content : (ns : List (Named Schema)) (i : ℕ) (n : Named Schema) → i < length ns → n ≡ get_or ns i n
    → said_at (types_of (contents ns)) i ≡ said (type_of n.content)
said_content [] i n low e = absurd (omega (arith, low))
said_content (x ∷ xs) zero n low e = ap (λ z. said (type_of z.content)) (sym e)
said_content (x ∷ xs) (suc i) n low e = said_content xs i n (omega (arith, low)) e

-- ---- Whole values

-- A row of trees has as many as the list that it is made of.
pub count_trees : (ts : List Tree) → count (trees ts) ≡ length ts
count_trees [] = refl
count_trees (t ∷ ts) = ap suc (count_trees ts)

-- A count and then the elements are what a list says.
pub list_says : (f : Saying) (items : List Value) (v : Value) (n : ℕ) (old start now : List Spoken) → tree v ≡ Seq (trees (map tree items)) → n ≡ length items
    → Appends old start (Count n ∷ []) → Appends start now (each_said f (trees (map tree items))) → Appends old now (list_said f (tree v))
list_says f items v n old start now seen many counted each =
    let ts = map tree items in
    let all = each_said f (trees ts) in
    let same : n ≡ count (trees ts) = many ∙ (sym (length-map items tree) ∙ sym (count_trees ts)) in
    let says : Count n ∷ all ≡ list_said f (tree v) = ap (λ m. Count m ∷ all) same ∙ sym (ap (list_said f) seen) in
    appends_then old start now (Count n ∷ []) all counted each ∙ ap (λ ws. words_of old ++ ws) says

-- What an entry of a map says.
pub entry_says : (k v : MessageType) (t a b : Tree) → IsPair t a b → said (entry_of k v) t ≡ said k a ++ said v b
entry_says k v t a b (more, e) = ap (said (entry_of k v)) e ∙ ap (λ ws. said k a ++ ws) (append-nil (said v b))

-- Two values and others make a pair.
pub pair_is : (xs : List Value) (a b : Value) → 1 < length xs → a ≡ get_or xs 0 a → b ≡ get_or xs 1 b → IsPair (Group (trees (map tree xs))) (tree a) (tree b)
pair_is [] a b low first second = absurd (omega (arith, low))
pair_is (x ∷ []) a b low first second = absurd (omega (arith, low))
pair_is (x ∷ y ∷ xs) a b low first second =
    let more = trees (map tree xs) in
    (more, ap (λ z. Group (Then (tree z) (Then (tree y) more))) (sym first) ∙ ap (λ z. Group (Then (tree a) (Then (tree z) more))) (sym second))

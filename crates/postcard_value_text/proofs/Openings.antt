-- The first byte of a value's text, after blanks: it is neither `]` nor `}`.
use Rattle.std.proofs.Common.{◌≡◌, ℕ, zero, suc, ◌<◌, Bool, true, false, not, nat_eq, ◌||◌, List, [], ◌∷◌, ◌++◌, length, codes, refl, arith, inl, inr}
use Rattle.std.proofs.lemmas.Bool.Decides.{nat_tests}
use Rattle.std.specs.Char.{is_ascii_whitespace}
use Rattle.std.specs.Float.{Format}
use Rattle.std.specs.List.{AllPass}
use Rattle.postcard_wire.specs.Tree.{Tree, Boolean, Text, NoTrees}
use Rattle.postcard_wire.specs.Tree as nodes
use Rattle.postcard_schema.specs.declared.leaf.Leaf.{Leaf}
use Rattle.postcard_schema.specs.declared.leaf.Leaf.TheVariants as leaves
use Rattle.postcard_schema_text.specs.Text.{unblank, is_of_word, Led, Then, TakesPhrase, IsSign, IsWord}
use Rattle.postcard_schema_text.specs.Fronts.{Starts}
use Rattle.postcard_schema_text.specs.FrontLemmas.{pass_head, takes_split, sign_unblank, word_unblank}
use Rattle.postcard_value_text.specs.{AreNamed, HasBits, HasDistinctNames, is_signed}
use Rattle.postcard_value_text.specs.Floats.{is_of_float, IsFloatWord, IsHexadecimal, SpellsFloat, format_of}
use Rattle.postcard_value_text.specs.Quoted.{IsQuoted, ArePieces}
use Rattle.postcard_value_text.specs.Layout.{Layout, Fields, leaf, option, list, mapping, array, tuple, structure, choice, no_fields, then_field}
use Rattle.postcard_value_text.specs.Spelled.{Phrase, Speller, IsTruth, SpellsLeaf, SpellsContent, SpellsEntry, AreClosed, phrases, SpellsTree, SpellsAt, part_phrases, field_phrases}
use Rattle.postcard_value_text.proofs.Fronts.{AreScalars, scalar_after_blanks, bits_scalars, truth_scalars}
use Rattle.postcard_value_text.proofs.FloatTexts.{float_scalars}

-- Whether a byte may begin a value: whether it is neither `]` nor `}`.
abbrev pub begins_value : ℕ → Bool
begins_value b = not (nat_eq b 93 || nat_eq b 125)

-- A value may begin with a byte of a word.
word_begins : (b : ℕ) → is_of_word b ≡ true → begins_value b ≡ true
word_begins b h = grind (arith, nat_tests, h)

-- A value may begin with a byte of a number.
float_begins : (b : ℕ) → is_of_float b ≡ true → begins_value b ≡ true
float_begins b h = grind (arith, nat_tests, h)

-- A sign, a word, a number or a float comes first.
pub sign_opens : (sign : ℕ) (a r : List ℕ) → is_ascii_whitespace sign ≡ false → begins_value sign ≡ true → TakesPhrase (IsSign sign) a r → Starts begins_value a
sign_opens sign a r black begins h = (sign, r, sign_unblank sign a r black h, begins)

-- A text that begins with a word begins as a value.
word_opens : (word a r : List ℕ) → 0 < length word → TakesPhrase (IsWord word) a r → Starts begins_value a
word_opens [] a r some h = absurd (omega (arith, some))
word_opens (x ∷ word) a r some (front, (pass, led), whole) = (x, word ++ r, word_unblank x word a r (front, (pass, led), whole), word_begins x (pass_head is_of_word x word pass))

then_sign_opens : (sign : ℕ) (Q : Phrase) (a r : List ℕ) → is_ascii_whitespace sign ≡ false → begins_value sign ≡ true → TakesPhrase (Then (IsSign sign) Q) a r → Starts begins_value a
then_sign_opens sign Q a r black begins h = let k = takes_split (IsSign sign) Q a r h in sign_opens sign a k.0 black begins k.1

then_word_opens : (word : List ℕ) (Q : Phrase) (a r : List ℕ) → 0 < length word → TakesPhrase (Then (IsWord word) Q) a r → Starts begins_value a
then_word_opens word Q a r some h = let k = takes_split (IsWord word) Q a r h in word_opens word a k.0 some k.1

-- A text that begins with a number begins as a value.
scalar_opens : (P : Phrase) (a r : List ℕ) → AreScalars P → TakesPhrase (Led P) a r → Starts begins_value a
scalar_opens P a r each h = by (scalar_after_blanks P a r each h)
  where
    by : ((word : List ℕ) × P word × (0 < length word) × AllPass is_of_float word × (unblank a ≡ word ++ r)) → Starts begins_value a
    by ([], p, some, all, e) = absurd (omega (arith, some))
    by (x ∷ word, p, some, all, e) = (x, word ++ r, e, float_begins x (pass_head is_of_float x word all))

-- A text that begins with a float begins as a value.
float_opens : (f : Format) (bits : ℕ) (a r : List ℕ) → TakesPhrase (SpellsFloat f bits) a r → Starts begins_value a
float_opens f bits a r (front, inl p, whole) = scalar_opens (IsFloatWord f bits) a r (float_scalars f bits) (front, p, whole)
float_opens f bits a r (front, inr p, whole) =
    then_word_opens (codes "nan") (Then (IsSign 40) (Then (IsHexadecimal bits) (IsSign 41))) a r (omega arith) (front, p.1, whole)

-- A text that begins with a quote begins as a value.
quoted_opens : (quote : ℕ) (held a r : List ℕ) → is_ascii_whitespace quote ≡ false → begins_value quote ≡ true → TakesPhrase (IsQuoted quote held) a r → Starts begins_value a
quoted_opens quote held a r black begins h = then_sign_opens quote (Then (ArePieces quote held) (λ end. end ≡ quote ∷ [])) a r black begins h

-- The text of a value without parts begins as a value.
leaf_opens : (l : Leaf) (t : Tree) (a r : List ℕ) → TakesPhrase (SpellsLeaf l t) a r → Starts begins_value a
leaf_opens leaves.Bool (Boolean x) a r h = scalar_opens (IsTruth x) a r (truth_scalars x) h
leaf_opens (leaves.Integer i) t a r (front, (n, is, h), whole) = scalar_opens (HasBits (is_signed i) i n) a r (bits_scalars (is_signed i) i n) (front, h, whole)
leaf_opens (leaves.Float f) t a r (front, (n, is, h), whole) = float_opens (format_of f) n a r (front, h, whole)
leaf_opens leaves.Char (nodes.Char c) a r h = quoted_opens 39 _ a r refl refl h
leaf_opens leaves.Str (Text bytes) a r h = quoted_opens 34 bytes a r refl refl h
leaf_opens leaves.Bytes (nodes.Seq ts) a r (front, (bytes, is, (digits, held, word)), whole) = word_opens (48 ∷ 120 ∷ digits) a r (omega arith) (front, word, whole)
leaf_opens (leaves.Fixed order i) t a r (front, (n, is, h), whole) = scalar_opens (HasBits (is_signed i) i n) a r (bits_scalars (is_signed i) i n) (front, h, whole)
leaf_opens l t a r (front, none, whole) = absurd none

-- The text of a variant begins as a value.
variant_opens : (fs : Fields) (i : ℕ) (t : Tree) (a r : List ℕ) → AreNamed fs → TakesPhrase (SpellsAt fs i t) a r → Starts begins_value a
variant_opens no_fields i t a r names (front, none, whole) = absurd none
variant_opens (then_field n x fs) zero t a r names h = then_word_opens n (SpellsContent x (SpellsTree x) t) a r names.0 h
variant_opens (then_field n x fs) (suc i) t a r names h = variant_opens fs i t a r names.2 h

-- The text of a value begins, after blanks, with neither `]` nor `}`.
pub tree_opens : (x : Layout) (t : Tree) (a r : List ℕ) → HasDistinctNames x → TakesPhrase (SpellsTree x t) a r → Starts begins_value a
tree_opens (leaf l) t a r names h = leaf_opens l t a r h
tree_opens (option x) nodes.Absent a r names h = word_opens (codes "None") a r (omega arith) h
tree_opens (option x) (nodes.Present t) a r names h = then_word_opens (codes "Some") (Then (IsSign 40) (Then (SpellsTree x t) (IsSign 41))) a r (omega arith) h
tree_opens (list x) (nodes.Seq ts) a r names h = then_sign_opens 91 (AreClosed 93 (phrases (SpellsTree x) ts)) a r refl refl h
tree_opens (mapping x y) (nodes.Seq ts) a r names h = then_sign_opens 123 (AreClosed 125 (phrases (SpellsEntry (SpellsTree x) (SpellsTree y)) ts)) a r refl refl h
tree_opens (array x) (nodes.Group ts) a r names h = then_sign_opens 91 (AreClosed 93 (phrases (SpellsTree x) ts)) a r refl refl h
tree_opens (tuple xs) (nodes.Group ts) a r names h = then_sign_opens 40 (AreClosed 41 (part_phrases xs ts)) a r refl refl h
tree_opens (structure fs) (nodes.Group ts) a r names h = then_sign_opens 123 (AreClosed 125 (field_phrases fs ts)) a r refl refl h
tree_opens (choice fs) (nodes.Variant i t) a r names h = variant_opens fs i t a r names.1 h
tree_opens x t a r names (front, none, whole) = absurd none

-- An entry of a map begins with its key, and so with neither `]` nor `}`.
pub entry_opens : (x : Layout) (V : Speller) (t : Tree) (a r : List ℕ) → HasDistinctNames x → TakesPhrase (SpellsEntry (SpellsTree x) V t) a r → Starts begins_value a
entry_opens x V (nodes.Group (nodes.Then t (nodes.Then u NoTrees))) a r names h =
    let k = takes_split (SpellsTree x t) (Then (IsSign 61) (Then (IsSign 62) (V u))) a r h in
    tree_opens x t a k.0 names k.1
entry_opens x V t a r names (front, none, whole) = absurd none

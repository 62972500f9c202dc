-- Which texts denote a value of a type with names. Blanks, the white space of ASCII, may come before any word or sign.
use Rattle.std.specs.Prelude.{◌≡◌, ℕ, zero, suc, Bool, true, false, ◌⊎◌, List, [], ◌∷◌, ◌++◌, map, codes}
use Rattle.std.specs.Bool.{MatchBool}
use Rattle.std.specs.Char.{encode_utf8}
use Rattle.postcard_wire.specs.Tree.{Tree, Trees, Byte, Boolean, Text, NoTrees, trees}
use Rattle.postcard_wire.specs.Tree as nodes
use Rattle.postcard_schema.specs.Leaves.{float_size, is_signed, size_of}
use Rattle.postcard_schema.specs.declared.leaf.ByteOrder.TheVariants.{Little}
use Rattle.postcard_schema.specs.declared.leaf.Leaf.{Leaf}
use Rattle.postcard_schema.specs.declared.leaf.Leaf.TheVariants as leaves
use Rattle.postcard_schema.specs.declared.schema.Schema.{Schema}
use Rattle.postcard_schema_text.specs.Text.{AreBlank, Led, Then, IsSign, IsMaybe, IsWord}
use Rattle.postcard_value.specs.Numbers.{fixed_tree, integer_tree}
use Rattle.postcard_value.specs.Tree.{tree}
use Rattle.postcard_value.specs.declared.value.Value.{Value}
use Rattle.postcard_value_text.specs.Floats.{SpellsFloat, format_of}
use Rattle.postcard_value_text.specs.Numbers.{SpellsBits}
use Rattle.postcard_value_text.specs.Quoted.{IsQuoted, IsByteString}
use Rattle.postcard_value_text.specs.Layout.{Layout, Layouts, Fields, leaf, option, list, mapping, array, tuple, structure, choice, no_layouts, then_layout, no_fields, then_field, layout_of}

-- A set of texts, such as those that denote one value.
abbrev pub Phrase : Type 1
Phrase = List ℕ → Type 0

-- Which texts denote a tree.
abbrev pub Speller : Type 1
Speller = Tree → List ℕ → Type 0

-- The text is `true` or `false`.
abbrev pub IsTruth : Bool → List ℕ → Type 0
IsTruth x text = MatchBool x (text ≡ codes "true") (text ≡ codes "false")

-- The text is blanks, or none, and then the name between double quotes.
abbrev pub IsQuotedName : List ℕ → List ℕ → Type 0
IsQuotedName name text = Then (IsSign 34) (λ end. end ≡ name ++ 34 ∷ []) text

-- The text is the name of a field, alone or, as in JSON, between double quotes.
abbrev pub IsFieldName : List ℕ → List ℕ → Type 0
IsFieldName name text = IsWord name text ⊎ IsQuotedName name text

-- The texts of a value without parts.
abbrev pub SpellsLeaf : Leaf → Tree → List ℕ → Type 0
SpellsLeaf leaves.Bool (Boolean x) text = Led (IsTruth x) text
SpellsLeaf (leaves.Integer integer) t text = (n : ℕ) × (t ≡ integer_tree integer n) × SpellsBits (is_signed integer) integer n text
SpellsLeaf (leaves.Float float) t text = (n : ℕ) × (t ≡ fixed_tree Little (float_size float) n) × SpellsFloat (format_of float) n text
SpellsLeaf leaves.Char (nodes.Char c) text = IsQuoted 39 (encode_utf8 c) text
SpellsLeaf leaves.Str (Text bytes) text = IsQuoted 34 bytes text
SpellsLeaf leaves.Bytes (nodes.Seq ts) text = (bytes : List ℕ) × (ts ≡ trees (map Byte bytes)) × IsByteString bytes text
SpellsLeaf (leaves.Fixed order integer) t text = (n : ℕ) × (t ≡ fixed_tree order (size_of integer) n) × SpellsBits (is_signed integer) integer n text
SpellsLeaf l t text = ⊥

-- Phrases one after another: `RowAfter` has a `,` before each, `Row` before each but the first.
abbrev pub RowAfter : List Phrase → List ℕ → Type 0
RowAfter [] text = text ≡ []
RowAfter (P ∷ Ps) text = Then (IsSign 44) (Then P (RowAfter Ps)) text

-- The text is phrases in a row, with a `,` between two of them.
abbrev pub Row : List Phrase → List ℕ → Type 0
Row [] text = text ≡ []
Row (P ∷ Ps) text = Then P (RowAfter Ps) text

-- Whether there is no phrase.
abbrev pub are_none : List Phrase → Bool
are_none [] = true
are_none (P ∷ Ps) = false

-- The text is a phrase of P, but empty if the condition is true.
abbrev pub Unless : Bool → Phrase → List ℕ → Type 0
Unless true P text = text ≡ []
Unless false P text = P text

-- The text is phrases in a row and a closing bracket. A `,` may follow the last phrase.
abbrev pub AreClosed : ℕ → List Phrase → List ℕ → Type 0
AreClosed closing Ps text = Then (Row Ps) (Then (Unless (are_none Ps) (IsMaybe 44)) (IsSign closing)) text

-- The text is an opening bracket, and then phrases in a row and a closing bracket.
abbrev pub AreEnclosed : ℕ → ℕ → List Phrase → List ℕ → Type 0
AreEnclosed opening closing Ps text = Then (IsSign opening) (AreClosed closing Ps) text

-- The phrases of trees in a row. One relation says for all of them which texts denote a tree.
abbrev pub phrases : Speller → Trees → List Phrase
phrases S NoTrees = []
phrases S (nodes.Then t ts) = S t ∷ phrases S ts

-- A value in parentheses.
abbrev pub InParentheses : Speller → Tree → List ℕ → Type 0
InParentheses S t text = Then (IsSign 40) (Then (S t) (IsSign 41)) text

-- The first word of an option.
abbrev pub option_word : Bool → List ℕ
option_word true = codes "Some"
option_word false = codes "None"

-- `None`, or `Some` and the content in parentheses.
abbrev pub SpellsOption : Speller → Tree → List ℕ → Type 0
SpellsOption S nodes.Absent text = IsWord (codes "None") text
SpellsOption S (nodes.Present t) text = Then (IsWord (codes "Some")) (InParentheses S t) text
SpellsOption S t text = ⊥

-- The elements of a list, or the entries of a map, in brackets.
abbrev pub SpellsList : ℕ → ℕ → Speller → Tree → List ℕ → Type 0
SpellsList opening closing S (nodes.Seq ts) text = AreEnclosed opening closing (phrases S ts) text
SpellsList opening closing S t text = ⊥

-- The text denotes an array, as its elements in `[` and `]`.
abbrev pub SpellsArray : Speller → Tree → List ℕ → Type 0
SpellsArray S (nodes.Group ts) text = AreEnclosed 91 93 (phrases S ts) text
SpellsArray S t text = ⊥

-- An entry of a map: a key, `=>` and a value.
abbrev pub SpellsEntry : Speller → Speller → Tree → List ℕ → Type 0
SpellsEntry K V (nodes.Group (nodes.Then t (nodes.Then u NoTrees))) text = Then (K t) (Then (IsSign 61) (Then (IsSign 62) (V u))) text
SpellsEntry K V t text = ⊥

-- The parts of a tuple, or the fields of a struct, in brackets.
abbrev pub SpellsGroup : ℕ → ℕ → (Trees → List Phrase) → Tree → List ℕ → Type 0
SpellsGroup opening closing parts (nodes.Group ts) text = AreEnclosed opening closing (parts ts) text
SpellsGroup opening closing parts t text = ⊥

-- A field: its name, `:` and its value.
abbrev pub SpellsField : List ℕ → Speller → Tree → List ℕ → Type 0
SpellsField name S t text = Then (IsFieldName name) (Then (IsSign 58) (S t)) text

-- The content of a variant, after its name: nothing for the unit, a tuple or a struct, or another value in parentheses.
abbrev pub SpellsContent : Layout → Speller → Tree → List ℕ → Type 0
SpellsContent (tuple no_layouts) S t text = (t ≡ nodes.Group NoTrees) × (text ≡ [])
SpellsContent (tuple (then_layout x xs)) S t text = S t text
SpellsContent (structure fs) S t text = S t text
SpellsContent x S t text = InParentheses S t text

-- A variant: its name and its content.
abbrev pub SpellsVariant : List ℕ → Layout → Speller → Tree → List ℕ → Type 0
SpellsVariant name x S t text = Then (IsWord name) (SpellsContent x S t) text

-- The text denotes a value of an enum, by the variant at its index.
abbrev pub SpellsChoice : (ℕ → Speller) → Tree → List ℕ → Type 0
SpellsChoice S (nodes.Variant i t) text = S i t text
SpellsChoice S t text = ⊥

abbrev mutual
  -- The text denotes the tree, as a tree of the type.
  pub SpellsTree : Layout → Tree → List ℕ → Type 0
  SpellsTree (leaf l) t text = SpellsLeaf l t text
  SpellsTree (option x) t text = SpellsOption (SpellsTree x) t text
  SpellsTree (list x) t text = SpellsList 91 93 (SpellsTree x) t text
  SpellsTree (mapping x y) t text = SpellsList 123 125 (SpellsEntry (SpellsTree x) (SpellsTree y)) t text
  SpellsTree (array x) t text = SpellsArray (SpellsTree x) t text
  SpellsTree (tuple xs) t text = SpellsGroup 40 41 (part_phrases xs) t text
  SpellsTree (structure fs) t text = SpellsGroup 123 125 (field_phrases fs) t text
  SpellsTree (choice fs) t text = SpellsChoice (SpellsAt fs) t text

  -- The phrases of trees, one of each type, in order. If there are more types than trees, or fewer, no text denotes them.
  pub part_phrases : Layouts → Trees → List Phrase
  part_phrases no_layouts NoTrees = []
  part_phrases (then_layout x xs) (nodes.Then t ts) = SpellsTree x t ∷ part_phrases xs ts
  part_phrases xs ts = (λ text. ⊥) ∷ []

  -- The same of fields.
  pub field_phrases : Fields → Trees → List Phrase
  field_phrases no_fields NoTrees = []
  field_phrases (then_field n x fs) (nodes.Then t ts) = SpellsField n (SpellsTree x) t ∷ field_phrases fs ts
  field_phrases fs ts = (λ text. ⊥) ∷ []

  -- The text denotes the variant at an index, counted from 0.
  pub SpellsAt : Fields → ℕ → Tree → List ℕ → Type 0
  SpellsAt no_fields i t text = ⊥
  SpellsAt (then_field n x fs) zero t text = SpellsVariant n x (SpellsTree x) t text
  SpellsAt (then_field n x fs) (suc i) t text = SpellsAt fs i t text

-- The text denotes the value of the schema. Blanks may follow.
abbrev pub SpellsValue : Schema → Value → List ℕ → Type 0
SpellsValue schema v text = Then (SpellsTree (layout_of schema) (tree v)) AreBlank text

-- Lemmas on values without parts that are read from JSON.
use Rattle.std.proofs.Common.{◌≡◌, ℕ, ℤ, Bool, true, false, List, [], ◌∷◌, ◌++◌, map, sym, ap, subst, ◌∙◌, append-nil}
use Rattle.std.specs.Char.{encode_utf8, IsScalar}
use Rattle.hex.specs.Hex.{decode_of}
use Rattle.std.specs.Prelude.{Ok}
use Rattle.postcard_wire.specs.Tree.{Tree, Byte, Boolean, Text, trees}
use Rattle.postcard_wire.specs.Tree as nodes
use Rattle.postcard_schema.specs.declared.leaf.Integer.{Integer}
use Rattle.postcard_schema.specs.declared.leaf.Leaf.{Leaf}
use Rattle.postcard_schema.specs.declared.leaf.Leaf.TheVariants as leaves
use Rattle.postcard_schema.specs.Meaning.{leaf}
use Rattle.postcard_schema_text.specs.Text.{TakesPhrase, IsSign}
use Rattle.postcard_value.specs.NumberLemmas.{same_bits}
use Rattle.postcard_value_text.specs.Floats.{EndsFloat}
use Rattle.postcard_value_text.specs.Layout as layouts
use Rattle.serde_json.specs.Data.{Data, number, string, unsigned, negative}
use Rattle.postcard_value_json_read.specs.Reading.{Reading, IsLeafJson, IsUnsignedJson, IsSignedJson, IsBitsJson}
use Rattle.postcard_value_json_read.specs.Accepted.{IsOnly, IsReading}

-- ---- texts

-- A phrase after which nothing is left is the whole text.
pub taken_whole : (P : List ℕ → Type 0) (text rest : List ℕ) → TakesPhrase P text rest → rest ≡ [] → P text
taken_whole P text rest (front, is, whole) none = subst P (sym (whole ∙ ap (λ r. front ++ r) none ∙ append-nil front)) is

pub whole_taken : (P : List ℕ → Type 0) (text : List ℕ) → P text → TakesPhrase P text []
whole_taken P text is = (text, is, sym (append-nil text))

no_sign : (sign : ℕ) (after : List ℕ) → TakesPhrase (IsSign sign) [] after → ⊥
no_sign sign after ([], ([], phrase, blank, is, e), whole) = cc (e ∙ is)
no_sign sign after ([], (b ∷ blanks, phrase, blank, is, e), whole) = cc e
no_sign sign after (b ∷ front, is, whole) = cc whole

pub ends_float : EndsFloat []
ends_float = (tt, no_sign 40)

-- ---- numbers

-- JSON is at most one unsigned number.
pub unsigned_one : (a b : ℕ) (d : Data) → IsUnsignedJson a d → IsUnsignedJson b d → a ≡ b
unsigned_one a b (number (unsigned m)) x y = x ∙ sym y
unsigned_one a b (string s) x y = x.1 ∙ sym y.1
unsigned_one a b d x y = absurd x

-- JSON is at most one signed number.
pub signed_one : (a b : ℤ) (d : Data) → IsSignedJson a d → IsSignedJson b d → a ≡ b
signed_one a b (number (unsigned m)) x y = x ∙ sym y
signed_one a b (number (negative m)) x y = x ∙ sym y
signed_one a b (string s) x y = x.1 ∙ sym y.1
signed_one a b d x y = absurd x

pub one_bits : (signed : Bool) (i : Integer) (a b : ℕ) (d : Data) → IsBitsJson signed i a d → IsBitsJson signed i b d → a ≡ b
one_bits true i a b d (y, is, h) (z, was, g) = same_bits i y z a b (signed_one y z d h g) is was
one_bits false i a b d h g = unsigned_one a b d h.1 g.1

-- ---- the only tree

-- Each tree that is read is f of something of which S holds. So that of x is the only one if S holds of nothing else, and there is
-- none if S holds of nothing.
pub only_by : {X : Type 0} (f : X → Tree) (R : Reading) (S : X → Type 0) (x : X) (d : Data) → ((u : Tree) → R u d → (y : X) × (u ≡ f y) × S y) → R (f x) d → ((y : X) → S y → y ≡ x)
    → IsOnly (Unit {0}) R (f x) d
only_by f R S x d form h one = (h, λ names u r. let k = form u r in k.1 ∙ ap f (one k.0 k.2))

-- If each tree that the JSON denotes has a form, and the JSON has nothing of that form, it denotes no tree.
pub none_by : {X : Type 0} (f : X → Tree) (R : Reading) (S : X → Type 0) (d : Data) → ((u : Tree) → R u d → (y : X) × (u ≡ f y) × S y) → ((y : X) → S y → ⊥) → (u : Tree) → R u d → ⊥
none_by f R S d form none u r = let k = form u r in none k.0 k.2

-- The trees of a type without parts, and their JSON.
abbrev pub LeafReading : Leaf → Reading
LeafReading l = IsReading (leaf l) (layouts.leaf l)

-- JSON that denotes a character is a string of that character.
pub char_form : (d : Data) (u : Tree) → LeafReading leaves.Char u d → (c : ℕ) × (u ≡ nodes.Char c) × (IsScalar c × (d ≡ string (encode_utf8 c)))
char_form d u ((c, is, scalar), h) = (c, is, (scalar, subst (λ z. IsLeafJson leaves.Char z d) is h))

-- The tree of a byte string.
abbrev pub bytes_tree : List ℕ → Tree
bytes_tree bytes = nodes.Seq (trees (map Byte bytes))

-- JSON that denotes bytes is a string of their digits.
pub bytes_form : (d : Data) (u : Tree) → LeafReading leaves.Bytes u d → (bytes : List ℕ) × (u ≡ bytes_tree bytes) × ((s : List ℕ) × (d ≡ string s) × (decode_of s ≡ Ok bytes))
bytes_form d u ((ts, is, few, each), h) =
    let k = subst (λ z. IsLeafJson leaves.Bytes z d) is h in
    (k.0, is ∙ ap nodes.Seq k.2, (k.1, k.3, k.4))

pub same_text : (s t : List ℕ) → string s ≡ string t → s ≡ t
same_text s t e = cc e

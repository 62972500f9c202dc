-- The shapes of values that are a single node: bytes, numbers, booleans, characters and texts
-- (wire format 1.0, "the serde data model" and "varint encoded integers"). Each kind of node determines
-- its content.
use Rattle.std.proofs.Common.{sym, ◌∙◌, refl}
use Rattle.std.specs.Char.{IsScalar}
use Rattle.std.specs.Int.{w8, cast_unsigned}
use Rattle.std.specs.Prelude.{◌≡◌, ℕ, List, ℤ, Bool, ◌≢◌, ◌<◌, ◌≤◌, ◌^◌, length, IsUtf8, ⊤}
use Rattle.postcard_wire.proofs.Delimited.{fewer_delimited, byte_delimited, boolean_delimited, num_delimited, int_delimited, char_delimited, text_delimited}
use Rattle.postcard_wire.proofs.WellFormed.{byte_well_formed, boolean_well_formed, num_well_formed, int_well_formed, char_well_formed, text_well_formed}
use Rattle.postcard_wire.specs.Number.{InRange}
use Rattle.postcard_wire.specs.Reading.{IsDelimited, ReadsWellFormed, IsByte, IsBoolean, IsNum, IsInt, IsChar, IsText}
use Rattle.postcard_wire.specs.Tree.{Byte, Num, Int, Text, Boolean, Char, Tree, IsWidth}
use Rattle.postcard_shape.specs.Shape.{ComesBack, HasOne, Shape, never}

-- The number is equal to the value.
abbrev pub Same : ℕ → ℕ → Type 0
Same n v = n ≡ v

-- The node of a byte determines the byte.
pub byte_same : (a b : ℕ) → Byte a ≡ Byte b → a ≡ b
byte_same a b e = cc

-- The node of an unsigned number determines the number.
pub num_same : (w a b : ℕ) → Num w a ≡ Num w b → a ≡ b
num_same w a b e = cc

-- The node of a signed number determines the number.
pub int_same : (w : ℕ) (a b : ℤ) → Int w a ≡ Int w b → a ≡ b
int_same w a b e = cc

boolean_same : (x y : Bool) → Boolean x ≡ Boolean y → x ≡ y
boolean_same x y e = cc

char_same : (a b : ℕ) → Char a ≡ Char b → a ≡ b
char_same a b e = cc

-- The node of a text determines its bytes.
pub text_same : (a b : List ℕ) → Text a ≡ Text b → a ≡ b
text_same a b e = cc

-- The bytes of one tree are equal.
pub byte_one : HasOne (λ t v. t ≡ Byte v) (λ v w. v ≡ w)
byte_one t v w h k = byte_same v w (sym h ∙ k)

-- The signed bytes of one tree are equal in two's complement.
pub signed_byte_one : HasOne (λ t v. t ≡ Byte (cast_unsigned w8 v)) (λ v w. cast_unsigned w8 v ≡ cast_unsigned w8 w)
signed_byte_one t v w h k = byte_same (cast_unsigned w8 v) (cast_unsigned w8 w) (sym h ∙ k)

-- The unsigned numbers of one tree are equal.
pub num_one : (w : ℕ) → HasOne (λ t v. t ≡ Num w v) (λ v w. v ≡ w)
num_one w t u v h k = num_same w u v (sym h ∙ k)

-- The signed numbers of one tree are equal.
pub int_one : (w : ℕ) → HasOne (λ t v. t ≡ Int w v) (λ v w. v ≡ w)
int_one w t u v h k = int_same w u v (sym h ∙ k)

-- The booleans of one tree are equal.
pub boolean_one : HasOne (λ t v. t ≡ Boolean v) (λ v w. v ≡ w)
boolean_one t v w h k = boolean_same v w (sym h ∙ k)

-- The characters of one tree are equal.
pub char_one : HasOne (λ t v. t ≡ Char v) (λ v w. v ≡ w)
char_one t v w h k = char_same v w (sym h ∙ k)

-- The texts of one tree are equal, in what is seen of them.
pub text_one : {V : Type 0} (see : V → List ℕ) → HasOne (λ t v. t ≡ Text (see v)) (λ v w. see v ≡ see w)
text_one see t v w h k = text_same (see v) (see w) (sym h ∙ k)

-- If a node is made by an injective constructor of what is seen of a value, the values of one tree
-- look alike.
pub node_one : {V A : Type 0} (node : A → Tree) (see : V → A) → ((a b : A) → node a ≡ node b → a ≡ b) → HasOne (λ t v. t ≡ node (see v)) (λ v w. see v ≡ see w)
node_one node see injective t v w h k = injective (see v) (see w) (sym h ∙ k)

-- The shape of a byte.
abbrev pub byte : Shape ℕ
byte = record {
  tree = Byte;
  refusal = λ v. never;
  text = ⊥;
  reads = IsByte;
  value = λ t v. t ≡ Byte v;
  same = λ v w. v ≡ w;
  other = never;
  fits = λ v. v < 256;
  delimited = byte_delimited;
  well_formed = byte_well_formed;
  one_value = byte_one;
  again = λ v f. ((v, refl, f), refl);
}

-- The shape of a signed number of one byte, in two's complement.
abbrev pub signed_byte : Shape ℤ
signed_byte = record {
  tree = λ v. Byte (cast_unsigned w8 v);
  refusal = λ v. never;
  text = ⊥;
  reads = IsByte;
  value = λ t v. t ≡ Byte (cast_unsigned w8 v);
  same = λ v w. cast_unsigned w8 v ≡ cast_unsigned w8 w;
  other = never;
  fits = λ v. cast_unsigned w8 v < 256;
  delimited = byte_delimited;
  well_formed = byte_well_formed;
  one_value = signed_byte_one;
  again = λ v f. ((cast_unsigned w8 v, refl, f), refl);
}

-- The shape of an unsigned number of w bits.
abbrev pub num : (w : ℕ) → IsWidth w → Shape ℕ
num w width = record {
  tree = Num w;
  refusal = λ v. never;
  text = ⊥;
  reads = IsNum w;
  value = λ t v. t ≡ Num w v;
  same = λ v w. v ≡ w;
  other = never;
  fits = λ v. v < 2 ^ w;
  delimited = num_delimited w;
  well_formed = num_well_formed w width;
  one_value = num_one w;
  again = λ v f. ((v, refl, f), refl);
}

-- The shape of a signed number of w bits.
abbrev pub int : (w : ℕ) → IsWidth w → Shape ℤ
int w width = record {
  tree = Int w;
  refusal = λ v. never;
  text = ⊥;
  reads = IsInt w;
  value = λ t v. t ≡ Int w v;
  same = λ v w. v ≡ w;
  other = never;
  fits = InRange w;
  delimited = int_delimited w;
  well_formed = int_well_formed w width;
  one_value = int_one w;
  again = λ v f. ((v, refl, f), refl);
}

-- The shape of a boolean.
abbrev pub boolean : Shape Bool
boolean = record {
  tree = Boolean;
  refusal = λ v. never;
  text = ⊥;
  reads = IsBoolean;
  value = λ t v. t ≡ Boolean v;
  same = λ v w. v ≡ w;
  other = never;
  fits = λ v. ⊤;
  delimited = boolean_delimited;
  well_formed = boolean_well_formed;
  one_value = boolean_one;
  again = λ v f. ((v, refl), refl);
}

-- The shape of a character.
abbrev pub character : Shape ℕ
character = record {
  tree = Char;
  refusal = λ v. never;
  text = ⊥;
  reads = IsChar;
  value = λ t v. t ≡ Char v;
  same = λ v w. v ≡ w;
  other = never;
  fits = IsScalar;
  delimited = char_delimited;
  well_formed = char_well_formed;
  one_value = char_one;
  again = λ v f. ((v, refl, f), refl);
}

-- The shape of a text.
abbrev pub text : Shape (List ℕ)
text = record {
  tree = Text;
  refusal = λ v. never;
  text = ⊥;
  reads = IsText;
  value = λ t v. t ≡ Text v;
  same = λ v w. v ≡ w;
  other = never;
  fits = λ v. IsUtf8 v × (length v < 2 ^ 64);
  delimited = text_delimited;
  well_formed = text_well_formed;
  one_value = text_one (λ (v : List ℕ). v);
  again = λ v f. ((v, refl, f.0, f.1), refl);
}

-- The tree is a text of at most n bytes.
abbrev pub IsShortText : ℕ → Tree → Type 0
IsShortText n t = (u : List ℕ) × (t ≡ Text u) × (length u ≤ n) × IsUtf8 u × (length u < 2 ^ 64)

pub short_text_inside : (n : ℕ) (t : Tree) → IsShortText n t → IsText t
short_text_inside n t r = (r.0, r.1, r.3, r.4)

-- The shape of a text of at most n bytes.
abbrev pub short_text : ℕ → Shape (List ℕ)
short_text n = record {
  tree = Text;
  refusal = λ v. never;
  text = ⊥;
  reads = IsShortText n;
  value = λ t v. t ≡ Text v;
  same = λ v w. v ≡ w;
  other = never;
  fits = λ v. (length v ≤ n) × IsUtf8 v × (length v < 2 ^ 64);
  delimited = fewer_delimited _ _ (short_text_inside n) text_delimited;
  well_formed = λ t r. text_well_formed t (short_text_inside n t r);
  one_value = text_one (λ (v : List ℕ). v);
  again = λ v f. ((v, refl, f.0, f.1, f.2), refl);
}

-- The trees of the set other than `one`.
abbrev pub Without : Tree → (Tree → Type 0) → Tree → Type 0
Without one reads t = reads t × (t ≢ one)

pub without_delimited : (one : Tree) (reads : Tree → Type 0) → IsDelimited reads → IsDelimited (Without one reads)
without_delimited one reads law = fewer_delimited (Without one reads) reads (λ t r. r.0) law

pub without_well_formed : (one : Tree) (reads : Tree → Type 0) → ReadsWellFormed reads → ReadsWellFormed (Without one reads)
without_well_formed one reads law t r = law t r.0

-- A value that comes back does so without the tree `one`, if its own is another.
pub without_again : {V : Type 0} (one : Tree) (tree : V → Tree) (reads : Tree → Type 0) (value : Tree → V → Type 0) (fits : V → Type 0) → ComesBack tree reads value fits →
    ComesBack tree (Without one reads) value (λ v. fits v × (tree v ≢ one))
without_again one tree reads value fits again v f = let k = again v f.0 in ((k.0, f.1), k.1)

-- The shape s without the values of the tree `one`, as for the numbers that aren't 0.
abbrev pub without : {V : Type 0} → Tree → Shape V → Shape V
without one s = record {
  tree = s.tree;
  refusal = s.refusal;
  text = s.text;
  reads = Without one s.reads;
  value = s.value;
  same = s.same;
  other = s.other;
  fits = λ v. s.fits v × (s.tree v ≢ one);
  delimited = without_delimited one s.reads s.delimited;
  well_formed = without_well_formed one s.reads s.well_formed;
  one_value = s.one_value;
  again = without_again one s.tree s.reads s.value s.fits s.again;
}

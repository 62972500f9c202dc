-- Values without parts at the start of a text: how what is read of one is its value.
use Rattle.std.proofs.Common.{◌≡◌, ℕ, Bool, true, false, List, [], ◌++◌, map, Ok, Result, IsErrAnd, refl, sym, ap, subst, ◌∙◌}
use Rattle.std.specs.Char.{encode_utf8, IsScalar}
use Rattle.std.specs.Str.{IsTrimAsciiStart, IsUtf8}
use Rattle.std.proofs.lemmas.Str.{encode_same}
use Rattle.postcard_wire.specs.Tree.{Tree, Byte, Boolean, Text, trees}
use Rattle.postcard_wire.specs.Tree as nodes
use Rattle.postcard_wire.specs.Reading.{IsByte, IsBoolean, IsChar, IsText, IsSeq}
use Rattle.postcard_schema.specs.declared.leaf.ByteOrder.TheVariants.{Little}
use Rattle.postcard_schema.specs.declared.leaf.Float.{Float}
use Rattle.postcard_schema.specs.declared.leaf.Integer.{Integer}
use Rattle.postcard_schema.specs.declared.leaf.Leaf.TheVariants as leaves
use Rattle.postcard_value.specs.Numbers.{fixed_tree}
use Rattle.postcard_value.specs.declared.value.Value.{Value}
use Rattle.postcard_value_text.specs.{EndsFloat, EndsNumber, EndsWord, FollowsValue, HasBits, IsByteString, IsQuoted, Led, ReadsTree, SpellsBits}
use Rattle.postcard_value_text.specs.{SpellsFloat, TakesPhrase, float_size, format_of, is_signed, tree}
use Rattle.postcard_value_text.specs.declared.error.Stop.{Stop}
use Rattle.postcard_value_text.specs.declared.error.Stop.TheVariants.{Memory}
use Rattle.postcard_value_text.specs.Spelled.{IsTruth, Phrase, Speller, SpellsLeaf}
use Rattle.postcard_value_text.proofs.Blanks.{led_again, quoted_led, bytes_led, float_led, quoted_trimmed, bytes_trimmed, float_trimmed}
use Rattle.postcard_value_text.proofs.Fronts.{scalar_trimmed, bits_scalars, truth_scalars, goes_number, goes_word, goes_float}
use Rattle.postcard_value_text.proofs.Readers.{passed_on, fails_with}

-- A text denotes one boolean.
pub one_truth : (x y : Bool) (word : List ℕ) → IsTruth x word → IsTruth y word → x ≡ y
one_truth true true word a b = refl
one_truth true false word a b = cc (sym a ∙ b)
one_truth false true word a b = cc (sym a ∙ b)
one_truth false false word a b = refl

-- One character has one text.
pub one_character : (c d : ℕ) → encode_utf8 c ≡ encode_utf8 d → c ≡ d
one_character c d e = (encode_same c d [] [] (ap (λ t. t ++ []) e)).0

-- ---- what is read of a value

-- What is read of a value is x of X, for which I holds. The value's tree is `form x`, and the phrases of `P x` denote x. E holds of what may
-- follow these.
pub record LeafForm {X : Type 0} (R : Tree → Type 0) (S : Speller) (form : X → Tree) (I : X → Type 0) (P : X → Phrase)
    (E : List ℕ → Type 0) : Type 0 where
  pub spells : (x : X) (a b c : List ℕ) → IsTrimAsciiStart a b → TakesPhrase (P x) b c → TakesPhrase (S (form x)) a c
  pub front : (t : Tree) (a b r : List ℕ) → IsTrimAsciiStart a b → R t → TakesPhrase (S t) a r
      → (x : X) × (t ≡ form x) × I x × TakesPhrase (P x) b r
  pub ends : (a : List ℕ) → FollowsValue a → E a

module _ {X : Type 0} {R : Tree → Type 0} {S : Speller} {form : X → Tree} {I : X → Type 0} {P : X → Phrase} {E : List ℕ → Type 0}
    (f : LeafForm R S form I P E) {a b c : List ℕ} (trim : IsTrimAsciiStart a b) where
  -- The value is read if x is, and if each other thing that the text denotes is x.
  pub leaf_read : (x : X) (v : Value) → tree v ≡ form x → R (form x) → TakesPhrase (P x) b c
      → ((y : X) (r : List ℕ) → I y → TakesPhrase (P y) b r → E r → (x ≡ y) × (c ≡ r)) → ReadsTree (Unit {0}) R S a (Ok v) c
  leaf_read x v seen is taken one = record {
    value = subst R (sym seen) is;
    spelled = subst (λ t. TakesPhrase (S t) a c) (sym seen) (f.spells x a b c trim taken);
    accepted = λ names t r reads h goes.
        let k = f.front t a b r trim reads h in
        let got = one k.0 r k.2 k.3 (f.ends r goes) in
        (k.1 ∙ ap form (sym got.0) ∙ sym seen, got.1);
  }

  -- The value is refused if no such x is next.
  pub leaf_refused : {e : Stop} (v : Result Value Stop) → IsErrAnd v (λ y. y ≡ e)
      → ((y : X) (r : List ℕ) → I y → TakesPhrase (P y) b r → E r → e ≡ Memory) → ReadsTree (Unit {0}) R S a v c
  leaf_refused v back none = passed_on {see = tree} v back (fails_with (λ names t r reads h goes.
      let k = f.front t a b r trim reads h in none k.0 r k.2 k.3 (f.ends r goes)))

pub bool_form : LeafForm IsBoolean (SpellsLeaf leaves.Bool) Boolean (λ x. Unit {0}) (λ x. Led (IsTruth x)) EndsNumber
bool_form = record {
  spells = λ x a b c trim h. led_again (IsTruth x) a b c trim h;
  front = λ t a b r trim (x, is) h.
      (x, is, tt, scalar_trimmed (IsTruth x) a b r (truth_scalars x) trim (subst (λ s. TakesPhrase (SpellsLeaf leaves.Bool s) a r) is h));
  ends = goes_number;
}

-- A number by its bits, of which the tree is that of `form`.
pub bits_form : (R : Tree → Type 0) (form : ℕ → Tree) (i : Integer)
    → LeafForm R (λ t text. (n : ℕ) × (t ≡ form n) × SpellsBits (is_signed i) i n text) form (λ n. Unit {0}) (SpellsBits (is_signed i) i) EndsNumber
bits_form R form i = record {
  spells = λ n a b c trim h. let k = led_again (HasBits (is_signed i) i n) a b c trim h in (k.0, (n, refl, k.1), k.2);
  front = λ t a b r trim is (p, (n, same, h), whole).
      (n, same, tt, scalar_trimmed (HasBits (is_signed i) i n) a b r (bits_scalars (is_signed i) i n) trim (p, h, whole));
  ends = goes_number;
}

pub float_form : (R : Tree → Type 0) (f : Float)
    → LeafForm R (SpellsLeaf (leaves.Float f)) (fixed_tree Little (float_size f)) (λ n. Unit {0}) (SpellsFloat (format_of f)) EndsFloat
float_form R f = record {
  spells = λ n a b c trim h. let k = float_led (format_of f) n a b c trim h in (k.0, (n, refl, k.1), k.2);
  front = λ t a b r trim is (p, (n, same, h), whole). (n, same, tt, float_trimmed (format_of f) n a b r trim (p, h, whole));
  ends = goes_float;
}

pub char_form : LeafForm IsChar (SpellsLeaf leaves.Char) nodes.Char IsScalar (λ c. IsQuoted 39 (encode_utf8 c)) (λ a. Unit {0})
char_form = record {
  spells = λ x a b c trim h. quoted_led 39 (encode_utf8 x) a b c trim h;
  front = λ t a b r trim (x, is, scalar) h.
      (x, is, scalar, quoted_trimmed 39 (encode_utf8 x) a b r refl trim (subst (λ s. TakesPhrase (SpellsLeaf leaves.Char s) a r) is h));
  ends = λ a goes. tt;
}

pub text_form : LeafForm IsText (SpellsLeaf leaves.Str) Text IsUtf8 (IsQuoted 34) (λ a. Unit {0})
text_form = record {
  spells = λ u a b c trim h. quoted_led 34 u a b c trim h;
  front = λ t a b r trim (u, is, utf8, few) h.
      (u, is, utf8, quoted_trimmed 34 u a b r refl trim (subst (λ s. TakesPhrase (SpellsLeaf leaves.Str s) a r) is h));
  ends = λ a goes. tt;
}

pub bytes_form : LeafForm (IsSeq IsByte) (SpellsLeaf leaves.Bytes) (λ bs. nodes.Seq (trees (map Byte bs))) (λ bs. Unit {0}) IsByteString EndsWord
bytes_form = record {
  spells = λ bs a b c trim h. let k = bytes_led bs a b c trim h in (k.0, (bs, refl, k.1), k.2);
  front = λ t a b r trim (ts, is, few, each) h.
      let k = subst (λ s. TakesPhrase (SpellsLeaf leaves.Bytes s) a r) is h in
      (k.1.0, is ∙ ap nodes.Seq k.1.1, tt, bytes_trimmed k.1.0 a b r trim (k.0, k.1.2, k.2));
  ends = goes_word;
}

-- Types with one text are equal. The text of a type shows where it ends, so no text of a type is a prefix of another with other bytes after
-- it.
use Rattle.std.proofs.Common.{◌≡◌, ℕ, ◌<◌, cond, List, [], ◌∷◌, ◌++◌, get_or, drop, refl, sym, ap, subst, ◌∙◌, append_assoc, arith}
use Rattle.std.specs.Prelude.{nat_eq}
use Rattle.std.specs.Char.{digit_value}
use Rattle.std.specs.Fmt.{decimal}
use Rattle.std.specs.Str.Parse.{AllDigits}
use Rattle.std.proofs.lemmas.Fmt.{decimal_injective, decimal_is_IsNumeral}
use Rattle.postcard_schema.specs.declared.leaf.ByteOrder.TheVariants.{Little, Big}
use Rattle.postcard_schema.specs.declared.leaf.Float.TheVariants.{F32, F64}
use Rattle.postcard_schema.specs.declared.leaf.Integer.{Integer}
use Rattle.postcard_schema.specs.declared.leaf.Integer.TheVariants.{U8, U16, U32, U64, U128, I8, I16, I32, I64, I128}
use Rattle.postcard_schema.specs.declared.leaf.Leaf.{Leaf}
use Rattle.postcard_schema.specs.declared.leaf.Leaf.TheVariants as leaves
use Rattle.postcard_schema.specs.Leaves.{integer_name, leaf_name}
use Rattle.postcard_schema.specs.Meaning.{MessageType, MessageTypes, leaf, option, seq, array, group, choice, no_types, then_type}
use Rattle.postcard_key.specs.Counts.{AllCountsFit, CountsFit}
use Rattle.postcard_key.specs.Shape.{parts_text, shape_text, variants_text}
use Rattle.postcard_key.proofs.LeafTexts.{same_leaf}

-- What kind of type begins with a byte: `O`, `[`, `(`, `<`, or a letter of a name. No type begins with `)`.
abbrev kind_at : ℕ → ℕ
kind_at b = cond (nat_eq b 79) 1 (cond (nat_eq b 91) 2 (cond (nat_eq b 40) 3 (cond (nat_eq b 60) 4 (cond (nat_eq b 41) 5 0))))

abbrev first_kind : List ℕ → ℕ
first_kind text = kind_at (get_or text 0 0)

-- The kind of a type, as its first byte tells it.
abbrev kind_of : MessageType → ℕ
kind_of (leaf l) = 0
kind_of (option t) = 1
kind_of (seq t) = 2
kind_of (array n t) = 2
kind_of (group ts) = 3
kind_of (choice ts) = 4

integer_kind : (i : Integer) (x : List ℕ) → first_kind (integer_name i ++ x) ≡ 0
integer_kind U8 x = refl
integer_kind U16 x = refl
integer_kind U32 x = refl
integer_kind U64 x = refl
integer_kind U128 x = refl
integer_kind I8 x = refl
integer_kind I16 x = refl
integer_kind I32 x = refl
integer_kind I64 x = refl
integer_kind I128 x = refl

leaf_kind : (l : Leaf) (x : List ℕ) → first_kind (leaf_name l ++ x) ≡ 0
leaf_kind leaves.Bool x = refl
leaf_kind leaves.Char x = refl
leaf_kind leaves.Str x = refl
leaf_kind leaves.Bytes x = refl
leaf_kind (leaves.Float F32) x = refl
leaf_kind (leaves.Float F64) x = refl
leaf_kind (leaves.Integer i) x = integer_kind i x
leaf_kind (leaves.Fixed Little i) x = refl
leaf_kind (leaves.Fixed Big i) x = refl

kind_read : (t : MessageType) (x : List ℕ) → first_kind (shape_text t ++ x) ≡ kind_of t
kind_read (leaf l) x = leaf_kind l x
kind_read (option t) x = refl
kind_read (seq t) x = refl
kind_read (array n t) x = refl
kind_read (group ts) x = refl
kind_read (choice ts) x = refl

same_kind : (t u : MessageType) (x y : List ℕ) → shape_text t ++ x ≡ shape_text u ++ y → kind_of t ≡ kind_of u
same_kind t u x y e = sym (kind_read t x) ∙ ap first_kind e ∙ kind_read u y

no_end : (t : MessageType) (x y : List ℕ) → 41 ∷ x ≡ shape_text t ++ y → ⊥
no_end t x y e = below t (ap first_kind e ∙ kind_read t y)
  where
    below : (u : MessageType) → 5 ≡ kind_of u → ⊥
    below (leaf l) k = omega (arith, k)
    below (option u) k = omega (arith, k)
    below (seq u) k = omega (arith, k)
    below (array n u) k = omega (arith, k)
    below (group us) k = omega (arith, k)
    below (choice us) k = omega (arith, k)

-- Equal lists have equal first bytes and equal remaining bytes.
first_same : (a b : ℕ) (x y : List ℕ) → a ∷ x ≡ b ∷ y → a ≡ b
first_same a b x y e = ap (λ l. get_or l 0 0) e

after_first : (a b : ℕ) (x y : List ℕ) → a ∷ x ≡ b ∷ y → x ≡ y
after_first a b x y e = ap (λ l. drop 1 l) e

moved : (a b c p q r : List ℕ) → (a ++ b) ++ c ≡ (p ++ q) ++ r → a ++ (b ++ c) ≡ p ++ (q ++ r)
moved a b c p q r e = sym (append_assoc a b c) ∙ e ∙ append_assoc p q r

-- A `]` is no digit.
no_digit : (d : ℕ) → 93 ≡ d → digit_value d < 10 → ⊥
no_digit d is low = let high : digit_value 93 < 10 = subst (λ c. digit_value c < 10) (sym is) low in omega (arith, high)

-- The digits before a `]`.
same_digits : (ds es x y : List ℕ) → AllDigits 10 ds → AllDigits 10 es → ds ++ (93 ∷ x) ≡ es ++ (93 ∷ y) → (ds ≡ es) × (x ≡ y)
same_digits [] [] x y p q e = (refl, after_first 93 93 x y e)
same_digits [] (d ∷ es) x y p q e = let is : 93 ≡ d = first_same 93 d x (es ++ (93 ∷ y)) e in absurd (no_digit d is q.0)
same_digits (d ∷ ds) [] x y p q e = let is : 93 ≡ d = sym (first_same d 93 (ds ++ (93 ∷ x)) y e) in absurd (no_digit d is p.0)
same_digits (c ∷ ds) (d ∷ es) x y p q e =
    let first = first_same c d (ds ++ (93 ∷ x)) (es ++ (93 ∷ y)) e in
    let more = same_digits ds es x y p.1 q.1 (after_first c d (ds ++ (93 ∷ x)) (es ++ (93 ∷ y)) e) in
    (λ i. first i ∷ more.0 i, more.1)

mutual
  same_type : (t u : MessageType) (x y : List ℕ) → CountsFit t → CountsFit u → shape_text t ++ x ≡ shape_text u ++ y → (t ≡ u) × (x ≡ y)
  same_type (leaf l) (leaf m) x y f g e = let h = same_leaf l m x y e in (ap leaf h.0, h.1)
  same_type (option t) (option u) x y f g e =
      let h = same_type t u (62 ∷ x) (62 ∷ y) f g (moved (shape_text t) (62 ∷ []) x (shape_text u) (62 ∷ []) y (ap (λ l. drop 7 l) e)) in
      (ap option h.0, after_first 62 62 x y h.1)
  same_type (seq t) (seq u) x y f g e =
      let h = same_type t u (93 ∷ x) (93 ∷ y) f g (moved (shape_text t) (93 ∷ []) x (shape_text u) (93 ∷ []) y (ap (λ l. drop 1 l) e)) in
      (ap seq h.0, after_first 93 93 x y h.1)
  same_type (seq t) (array n u) x y f g e =
      let h = same_type t u (93 ∷ x) (59 ∷ ((decimal n ++ (93 ∷ [])) ++ y)) f g.1 (moved (shape_text t) (93 ∷ []) x (shape_text u) (59 ∷ (decimal n ++ (93 ∷ []))) y (ap (λ l. drop 1 l) e)) in
      let is : 93 ≡ 59 = first_same 93 59 x ((decimal n ++ (93 ∷ [])) ++ y) h.1 in absurd (omega (arith, is))
  same_type (array n t) (seq u) x y f g e =
      let h = same_type t u (59 ∷ ((decimal n ++ (93 ∷ [])) ++ x)) (93 ∷ y) f.1 g (moved (shape_text t) (59 ∷ (decimal n ++ (93 ∷ []))) x (shape_text u) (93 ∷ []) y (ap (λ l. drop 1 l) e)) in
      let is : 59 ≡ 93 = first_same 59 93 ((decimal n ++ (93 ∷ [])) ++ x) y h.1 in absurd (omega (arith, is))
  same_type (array n t) (array m u) x y f g e =
      let h = same_type t u (59 ∷ ((decimal n ++ (93 ∷ [])) ++ x)) (59 ∷ ((decimal m ++ (93 ∷ [])) ++ y)) f.1 g.1
      (moved (shape_text t) (59 ∷ (decimal n ++ (93 ∷ []))) x (shape_text u) (59 ∷ (decimal m ++ (93 ∷ []))) y (ap (λ l. drop 1 l) e)) in
      let counts = after_first 59 59 ((decimal n ++ (93 ∷ [])) ++ x) ((decimal m ++ (93 ∷ [])) ++ y) h.1 in
      let k = same_digits (decimal n) (decimal m) x y (decimal_is_IsNumeral n f.0).0.1 (decimal_is_IsNumeral m g.0).0.1 (moved (decimal n) (93 ∷ []) x (decimal m) (93 ∷ []) y counts) in
      let same : n ≡ m = decimal_injective n m f.0 g.0 k.0 in
      (λ i. array (same i) (h.0 i), k.1)
  same_type (group ts) (group us) x y f g e = let h = same_parts ts us x y f g (ap (λ l. drop 1 l) e) in (ap group h.0, h.1)
  same_type (choice ts) (choice us) x y f g e = let h = same_variants ts us x y f g (ap (λ l. drop 1 l) e) in (ap choice h.0, h.1)
  same_type t u x y f g e = absurd (let k = same_kind t u x y e in omega (arith, k))

  same_parts : (ts us : MessageTypes) (x y : List ℕ) → AllCountsFit ts → AllCountsFit us → parts_text ts ++ x ≡ parts_text us ++ y → (ts ≡ us) × (x ≡ y)
  same_parts no_types no_types x y f g e = (refl, after_first 41 41 x y e)
  same_parts no_types (then_type u us) x y f g e =
      absurd (no_end u x ((44 ∷ parts_text us) ++ y) (e ∙ append_assoc (shape_text u) (44 ∷ parts_text us) y))
  same_parts (then_type t ts) no_types x y f g e =
      absurd (no_end t y ((44 ∷ parts_text ts) ++ x) (sym e ∙ append_assoc (shape_text t) (44 ∷ parts_text ts) x))
  same_parts (then_type t ts) (then_type u us) x y f g e =
      let h = same_type t u (44 ∷ (parts_text ts ++ x)) (44 ∷ (parts_text us ++ y)) f.0 g.0 (moved (shape_text t) (44 ∷ parts_text ts) x (shape_text u) (44 ∷ parts_text us) y e) in
      let k = same_parts ts us x y f.1 g.1 (after_first 44 44 (parts_text ts ++ x) (parts_text us ++ y) h.1) in
      (λ i. then_type (h.0 i) (k.0 i), k.1)

  same_variants : (ts us : MessageTypes) (x y : List ℕ) → AllCountsFit ts → AllCountsFit us → variants_text ts ++ x ≡ variants_text us ++ y → (ts ≡ us) × (x ≡ y)
  same_variants no_types no_types x y f g e = (refl, after_first 62 62 x y e)
  same_variants no_types (then_type u us) x y f g e =
      let is : 62 ≡ 124 = first_same 62 124 x ((shape_text u ++ variants_text us) ++ y) e in absurd (omega (arith, is))
  same_variants (then_type t ts) no_types x y f g e =
      let is : 124 ≡ 62 = first_same 124 62 ((shape_text t ++ variants_text ts) ++ x) y e in absurd (omega (arith, is))
  same_variants (then_type t ts) (then_type u us) x y f g e =
      let h = same_type t u (variants_text ts ++ x) (variants_text us ++ y) f.0 g.0 (moved (shape_text t) (variants_text ts) x (shape_text u) (variants_text us) y (ap (λ l. drop 1 l) e)) in
      let k = same_variants ts us x y f.1 g.1 h.1 in
      (λ i. then_type (h.0 i) (k.0 i), k.1)

-- Types with equal texts are equal.
pub one_text : (t u : MessageType) → CountsFit t → CountsFit u → shape_text t ≡ shape_text u → t ≡ u
one_text t u f g e = (same_type t u [] [] f g (ap (λ l. l ++ []) e)).0

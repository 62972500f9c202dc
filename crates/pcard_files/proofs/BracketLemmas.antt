-- The name of a type without parts, in brackets, is an expression of the type.
use Rattle.std.proofs.Common.{◌≡◌, ℕ, suc, true, List, [], ◌∷◌, ◌++◌, refl, sym, inl, inr, lit≤, true≢false}
use Rattle.std.specs.Char.{is_ascii_whitespace}
use Rattle.std.specs.List.{list_all}
use Rattle.std.proofs.lemmas.List.{append-nil}
use Rattle.std.proofs.lemmas.List.Sums.{AllPass-from_list_all}
use Rattle.postcard_schema.specs.Leaves.{leaf_name}
use Rattle.postcard_schema.specs.declared.leaf.Float.TheVariants.{F32, F64}
use Rattle.postcard_schema.specs.declared.leaf.Integer.TheVariants.{U8, U16, U32, U64, U128, I8, I16, I32, I64, I128}
use Rattle.postcard_schema.specs.declared.leaf.Leaf.{Leaf}
use Rattle.postcard_schema.specs.declared.leaf.Leaf.TheVariants as leaves
use Rattle.postcard_schema.specs.declared.schema.Schema.{Schema}
use Rattle.postcard_schema.specs.declared.schema.Schema.TheVariants as schemas
use Rattle.postcard_schema_text.specs.Angled.{IsNameOf}
use Rattle.postcard_schema_text.specs.Grammar.{IsExpression, IsPlain, IsType, IsWorded}
use Rattle.postcard_schema_text.specs.Text.{AreBlank, IsSign, IsWord, is_of_word}
use Rattle.postcard_schema_text.specs.declared.names.TypeName.TheVariants as names
use Rattle.pcard_files.specs.Written.{is_word}

-- The name is one of the type, and a word.
abbrev IsWordOf : Leaf → Type 0
IsWordOf l = IsNameOf (leaf_name l) l × (list_all is_of_word (leaf_name l) ≡ true)

word_of : (l : Leaf) → is_word l ≡ true → IsWordOf l
word_of leaves.Bool is = (refl, refl)
word_of (leaves.Integer U8) is = (refl, refl)
word_of (leaves.Integer U16) is = (refl, refl)
word_of (leaves.Integer U32) is = (refl, refl)
word_of (leaves.Integer U64) is = (inl refl, refl)
word_of (leaves.Integer U128) is = (refl, refl)
word_of (leaves.Integer I8) is = (refl, refl)
word_of (leaves.Integer I16) is = (refl, refl)
word_of (leaves.Integer I32) is = (refl, refl)
word_of (leaves.Integer I64) is = (inl refl, refl)
word_of (leaves.Integer I128) is = (refl, refl)
word_of (leaves.Float F32) is = (refl, refl)
word_of (leaves.Float F64) is = (refl, refl)
word_of leaves.Char is = (refl, refl)
word_of leaves.Str is = (inl refl, refl)
word_of leaves.Bytes is = (refl, refl)
word_of (leaves.Fixed order integer) is = absurd (true≢false (sym is))

no_blank : AreBlank []
no_blank = AllPass-from_list_all is_ascii_whitespace [] refl

sign : (b : ℕ) → IsSign b (b ∷ [])
sign b = ([], b ∷ [], no_blank, refl, refl)

word : (w : List ℕ) → list_all is_of_word w ≡ true → IsWord w w
word w pass = (AllPass-from_list_all is_of_word w pass, ([], w, no_blank, refl, refl))

-- The name is one of the type, in any brackets.
named : (n : ℕ) (l : Leaf) → IsWordOf l → IsType (suc n) (schemas.Leaf l) (leaf_name l)
unfolding IsType
named n l (name, pass) =
    let worded : IsWorded (IsType n) (schemas.Leaf l) (leaf_name l) =
    (names.Leaf l, leaf_name l, name, (leaf_name l, [], word (leaf_name l) pass, (refl, refl), sym (append-nil (leaf_name l)))) in
    inr (0, lit≤ tt, (0, inl worded))

-- In brackets a type is the same type.
in_brackets : (n : ℕ) (s : Schema) (text : List ℕ) → IsType (suc n) s text → IsType (suc (suc n)) s (40 ∷ (text ++ 41 ∷ []))
unfolding IsType
in_brackets n s text is =
    let plain : IsPlain (IsType (suc n)) s (40 ∷ (text ++ 41 ∷ [])) =
    inr (inr (inl (40 ∷ [], text ++ 41 ∷ [], sign 40, inr (inl (text, 41 ∷ [], is, sign 41, refl)), refl))) in
    inr (0, lit≤ tt, (0, plain))

pub bracketed_leaf : (l : Leaf) → is_word l ≡ true → IsExpression (schemas.Leaf l) (40 ∷ (leaf_name l ++ 41 ∷ []))
bracketed_leaf l is =
    (_, [], in_brackets 62 (schemas.Leaf l) (leaf_name l) (named 62 l (word_of l is)), no_blank, sym (append-nil _))

-- Texts without blanks that are phrases of the grammar: signs, words, names of types and counts.
-- Signs are bytes: 60 is `<`, 62 `>`.
use Rattle.std.proofs.Common.{◌≡◌, ◌≢◌, ℕ, zero, suc, ◌^◌, ◌<◌, true, false, List, [], ◌∷◌, ◌++◌, length, get_or, refl, sym, ap, subst, arith, inl, inr}
use Rattle.std.proofs.lemmas.Bool.Decides.{nat_tests}
use Rattle.std.proofs.lemmas.Fmt.{decimal_is_IsNumeral}
use Rattle.std.proofs.lemmas.List.{append-nil}
use Rattle.std.proofs.lemmas.List.Sums.{AllPass-from_list_all}
use Rattle.std.specs.Char.{digit_value}
use Rattle.std.specs.Fmt.{decimal}
use Rattle.std.specs.List.{AllPass, list_all}
use Rattle.std.specs.Prelude.{codes}
use Rattle.std.specs.Str.Parse.{AllDigits}
use Rattle.postcard_schema.specs.declared.leaf.ByteOrder.{ByteOrder}
use Rattle.postcard_schema.specs.declared.leaf.ByteOrder.TheVariants.{Little, Big}
use Rattle.postcard_schema.specs.declared.leaf.Float.TheVariants.{F32, F64}
use Rattle.postcard_schema.specs.declared.leaf.Integer.{Integer}
use Rattle.postcard_schema.specs.declared.leaf.Integer.TheVariants.{U8, U16, U32, U64, U128, I8, I16, I32, I64, I128}
use Rattle.postcard_schema.specs.declared.leaf.Leaf.{Leaf}
use Rattle.postcard_schema.specs.declared.leaf.Leaf.TheVariants as leaves
use Rattle.postcard_schema.specs.declared.schema.Schema.{Schema}
use Rattle.postcard_schema.specs.declared.schema.Schema.TheVariants as schemas
use Rattle.postcard_schema.specs.Leaves.{integer_name, leaf_name, order_name}
use Rattle.postcard_schema.specs.Lemmas.{type_of_leaf}
use Rattle.postcard_schema_text.specs.declared.angled.Angled.TheVariants as kinds
use Rattle.postcard_schema_text.specs.declared.angled.Holder.TheVariants as holders
use Rattle.postcard_schema_text.specs.declared.names.TypeName.TheVariants as names
use Rattle.postcard_schema_text.specs.Angled.{IsIntegerName, IsNameOf}
use Rattle.postcard_schema_text.specs.Expressible.{LeafHasText}
use Rattle.postcard_schema_text.specs.Grammar.{IsPlain, IsType}
use Rattle.postcard_schema_text.specs.Literals.{is_underscore, without_underscores}
use Rattle.postcard_schema_text.specs.Text.{AreBlank, Then, IsSign, IsWord, IsCount, is_of_word}

-- No blanks.
pub no_blanks : AreBlank []
no_blanks k d inside = absurd (omega (arith, inside))

-- A sign without blanks.
pub sign : (c : ℕ) → IsSign c (c ∷ [])
sign c = ([], c ∷ [], no_blanks, refl, refl)

-- A sign and then a phrase.
pub opened : (c : ℕ) (P : List ℕ → Type 0) (text : List ℕ) → P text → Then (IsSign c) P (c ∷ text)
opened c P text h = (c ∷ [], text, sign c, h, refl)

-- A phrase and then a sign.
pub ended : (P : List ℕ → Type 0) (c : ℕ) (text : List ℕ) → P text → Then P (IsSign c) (text ++ (c ∷ []))
ended P c text h = (text, c ∷ [], h, sign c, refl)

-- A word and then a phrase.
pub worded : (word : List ℕ) (P : List ℕ → Type 0) (text : List ℕ) → AllPass is_of_word word → P text → Then (IsWord word) P (word ++ text)
worded word P text pass h = (word, text, (pass, ([], word, no_blanks, refl, refl)), h, refl)

-- The bytes of a known text are those of a word.
pub passes : (word : List ℕ) → list_all is_of_word word ≡ true → AllPass is_of_word word
passes word e = AllPass-from_list_all is_of_word word e

-- A type that is no enum is a type.
pub plain : (n : ℕ) (s : Schema) (text : List ℕ) → IsPlain (IsType n) s text → IsType (suc n) s text
unfolding IsType
plain n s text h = inr (0, omega arith, (0, h))

-- ---- Types without parts

leaf_word : (n : ℕ) (l : Leaf) (word : List ℕ) → IsNameOf word l → AllPass is_of_word word → IsType (suc n) (schemas.Leaf l) word
leaf_word n l word is pass =
    plain n (schemas.Leaf l) word (inl (names.Leaf l, word, is, (word, [], (pass, ([], word, no_blanks, refl, refl)), (refl, refl), sym (append-nil word))))

integer_passes : (i : Integer) → AllPass is_of_word (integer_name i)
integer_passes U8 = passes (codes "u8") refl
integer_passes U16 = passes (codes "u16") refl
integer_passes U32 = passes (codes "u32") refl
integer_passes U64 = passes (codes "u64") refl
integer_passes U128 = passes (codes "u128") refl
integer_passes I8 = passes (codes "i8") refl
integer_passes I16 = passes (codes "i16") refl
integer_passes I32 = passes (codes "i32") refl
integer_passes I64 = passes (codes "i64") refl
integer_passes I128 = passes (codes "i128") refl

integer_is : (i : Integer) → IsIntegerName (integer_name i) i
integer_is U8 = refl
integer_is U16 = refl
integer_is U32 = refl
integer_is U64 = inl refl
integer_is U128 = refl
integer_is I8 = refl
integer_is I16 = refl
integer_is I32 = refl
integer_is I64 = inl refl
integer_is I128 = refl

order_passes : (o : ByteOrder) → AllPass is_of_word (order_name o)
order_passes Little = passes (codes "LE") refl
order_passes Big = passes (codes "BE") refl

integer_text : (n : ℕ) (i : Integer) → IsType (suc n) (schemas.Leaf (leaves.Integer i)) (integer_name i)
integer_text n i = leaf_word n (leaves.Integer i) (integer_name i) (integer_is i) (integer_passes i)

fixed_text : (n : ℕ) (o : ByteOrder) (i : Integer) → LeafHasText n (leaves.Fixed o i)
    → IsType (suc n) (schemas.Leaf (leaves.Fixed o i)) (leaf_name (leaves.Fixed o i))
fixed_text zero o i h = absurd (omega (arith, h.0))
fixed_text (suc n) o i h =
    plain (suc n) (schemas.Leaf (leaves.Fixed o i)) (leaf_name (leaves.Fixed o i)) (inl (
      names.Angled (kinds.Holder (holders.Fixed o)),
      order_name o,
      refl,
      worded (order_name o) _ (60 ∷ (integer_name i ++ (62 ∷ []))) (order_passes o) (opened 60 _ (integer_name i ++ (62 ∷ [])) (
        schemas.Leaf (leaves.Integer i),
        (i, (type_of_leaf (leaves.Integer i), h.1)),
        (i, (type_of_leaf (leaves.Integer i), h.1), refl),
        ended (IsType (suc n) (schemas.Leaf (leaves.Integer i))) 62 (integer_name i) (integer_text n i),
      )),
    ))

-- The name of a type without parts denotes it.
pub leaf_text : (n : ℕ) (l : Leaf) → LeafHasText n l → IsType (suc n) (schemas.Leaf l) (leaf_name l)
leaf_text n leaves.Bool h = leaf_word n leaves.Bool (codes "bool") refl (passes (codes "bool") refl)
leaf_text n leaves.Char h = leaf_word n leaves.Char (codes "char") refl (passes (codes "char") refl)
leaf_text n leaves.Str h = leaf_word n leaves.Str (codes "str") (inl refl) (passes (codes "str") refl)
leaf_text n leaves.Bytes h = leaf_word n leaves.Bytes (codes "bytes") refl (passes (codes "bytes") refl)
leaf_text n (leaves.Float F32) h = leaf_word n (leaves.Float F32) (codes "f32") refl (passes (codes "f32") refl)
leaf_text n (leaves.Float F64) h = leaf_word n (leaves.Float F64) (codes "f64") refl (passes (codes "f64") refl)
leaf_text n (leaves.Integer i) h = integer_text n i
leaf_text n (leaves.Fixed o i) h = fixed_text n o i h

-- ---- Counts

-- A digit is no `_`.
no_underscore : (d : ℕ) → digit_value d < 10 → is_underscore d ≡ false
no_underscore d low = grind (arith, nat_tests, low)

-- Digits have no `_`.
digits_alone : (ds : List ℕ) → AllDigits 10 ds → without_underscores ds ≡ ds
digits_alone [] all = refl
digits_alone (d ∷ ds) all = rw (no_underscore d all.0) (ap (λ es. d ∷ es) (digits_alone ds all.1))

begins_by_digit : (ds : List ℕ) → AllDigits 10 ds → 0 < length ds → get_or ds 0 0 ≢ 95
begins_by_digit [] all some = absurd (omega (arith, some))
begins_by_digit (d ∷ ds) all some = λ e. let low : digit_value 95 < 10 = subst (λ c. digit_value c < 10) e all.0 in omega (arith, low)

-- The digits of a number are a count.
pub count_text : (n : ℕ) → n < 2 ^ 64 → IsCount n (decimal n)
count_text n low =
    let ds = decimal n in
    let is = decimal_is_IsNumeral n low in
    let alone : without_underscores ds ≡ ds = digits_alone ds is.0.1 in
    (ds, inl (begins_by_digit ds is.0.1 is.0.0, (rw alone is.0, rw alone (sym is.1))), low, ([], ds, no_blanks, refl, refl))

-- Which text a token of a declaration stands for, if it refers to no other declaration.
use Rattle.std.specs.Prelude.{◌≡◌, ℕ, ◌+◌, ◌≤◌, ◌⊎◌, Some, List, [], codes, slice_get}
use Rattle.postcard_source.specs.declared.token.Token.{Token}
use Rattle.postcard_source.specs.declared.declaration.Kind.{Kind}
use Rattle.postcard_source.specs.declared.declaration.Kind.TheVariants.{Struct, Enum, Alias}
use Rattle.postcard_source.specs.Tokens.{Says, IsAt, IsBefore}

-- If P holds, A holds, and otherwise B.
abbrev pub Where : Type 0 → Type 0 → Type 0 → Type 0
Where P A B = (P × A) ⊎ ((P → ⊥) × B)

-- This sign is at index i, with this number of brackets around it.
abbrev pub IsSign : ℕ → List ℕ → List Token → ℕ → Type 0
IsSign depth sign tokens i = (t : Token) × (slice_get tokens i ≡ Some t) × (t.depth ≡ depth) × Says sign t

-- `{}` stands for `()`, and another token for itself.
abbrev pub IsPlainText : List Token → ℕ → List ℕ → Type 0
IsPlainText tokens i text =
    Where (IsAt (codes "{") tokens i × IsAt (codes "}") tokens (i + 1)) (text ≡ codes "(")
    (Where (IsAt (codes "}") tokens i × IsBefore (codes "{") tokens i) (text ≡ codes ")")
    ((t : Token) × (slice_get tokens i ≡ Some t) × (text ≡ t.text.now)))

-- The token is the comma after the last of some fields in `(` and `)`, which have this number of brackets around them.
abbrev pub IsLastComma : ℕ → List Token → ℕ → Type 0
IsLastComma depth tokens i = IsSign depth (codes ",") tokens i × IsAt (codes ")") tokens (i + 1) × (IsBefore (codes "(") tokens i → ⊥)

-- Of a struct, `;` stands for nothing after `)`, and otherwise for `()`. A comma after the last field stands for nothing.
abbrev pub IsStructText : List Token → ℕ → List ℕ → Type 0
IsStructText tokens i text =
    Where (IsSign 0 (codes ";") tokens i)
    (Where (IsBefore (codes ")") tokens i) (text ≡ []) (text ≡ codes "()"))
    (Where (IsLastComma 1 tokens i) (text ≡ []) (IsPlainText tokens i text))

-- Of a type alias, `=` stands for `(`, and the last `;` for `)`.
abbrev pub IsAliasText : List Token → ℕ → List ℕ → Type 0
IsAliasText tokens i text =
    Where (IsSign 0 (codes "=") tokens i) (text ≡ codes "(")
    (Where (IsSign 0 (codes ";") tokens i) (text ≡ codes ")")
    (IsPlainText tokens i text))

-- A discriminant ends before the token: it is outside of all brackets, as the `}` of the enum, or it is the comma after a variant.
abbrev pub EndsDiscriminant : List Token → ℕ → Type 0
EndsDiscriminant tokens i = ((t : Token) × (slice_get tokens i ≡ Some t) × (t.depth ≡ 0)) ⊎ IsSign 1 (codes ",") tokens i

-- The token is of a variant's discriminant: an `=` within the bracket of the enum, or any token of the expression after it, up to the end
-- of the variant.
abbrev pub IsDiscriminant : List Token → ℕ → Type 0
IsDiscriminant tokens i = (j : ℕ) × (j ≤ i) × IsSign 1 (codes "=") tokens j × ((k : ℕ) → j ≤ k → k ≤ i → EndsDiscriminant tokens k → ⊥)

-- Of an enum, `{` stands for `(|`, `}` for `)`, and a comma between two variants for `|`. For nothing stand a comma after the last variant
-- or the last field of a variant, and the discriminant of a variant.
abbrev pub IsEnumText : List Token → ℕ → List ℕ → Type 0
IsEnumText tokens i text =
    Where (IsSign 0 (codes "{") tokens i) (text ≡ codes "(|")
    (Where (IsSign 0 (codes "}") tokens i) (text ≡ codes ")")
    (Where (IsSign 1 (codes ",") tokens i)
    (Where (IsAt (codes "}") tokens (i + 1)) (text ≡ []) (text ≡ codes "|"))
    (Where (IsLastComma 2 tokens i) (text ≡ [])
    (Where (IsDiscriminant tokens i) (text ≡ []) (IsPlainText tokens i text)))))

-- The token at the index, in a declaration of this kind, stands for this text.
abbrev pub IsText : Kind → List Token → ℕ → List ℕ → Type 0
IsText Struct tokens i text = IsStructText tokens i text
IsText Enum tokens i text = IsEnumText tokens i text
IsText Alias tokens i text = IsAliasText tokens i text

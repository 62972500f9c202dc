-- The grammar of type expressions: which texts denote a schema, with types nested up to a given depth.
use Rattle.std.specs.Prelude.{◌≡◌, ℕ, zero, suc, ◌<◌, ◌≤◌, true, ◌⊎◌, List, [], ◌∷◌, length, Vec, Box, string_bytes}
use Rattle.std.specs.declared.alloc.Global.{Global}
use Rattle.postcard_schema.specs.declared.schema.Named.{Named}
use Rattle.postcard_schema.specs.declared.schema.Schema.{Schema}
use Rattle.postcard_schema.specs.declared.schema.Schema.TheVariants.{Option, Seq, Array, Tuple, Struct, Enum}
use Rattle.postcard_schema.specs.declared.schema.Schema.TheVariants as schemas
use Rattle.postcard_schema.specs.Meaning.{has_bytes, type_of}
use Rattle.postcard_schema_text.specs.declared.angled.Holder.{Holder}
use Rattle.postcard_schema_text.specs.declared.angled.Pair.{Pair}
use Rattle.postcard_schema_text.specs.declared.angled.Pair.TheVariants as pairs
use Rattle.postcard_schema_text.specs.declared.names.TypeName.{TypeName}
use Rattle.postcard_schema_text.specs.declared.names.TypeName.TheVariants as names
use Rattle.postcard_schema_text.specs.declared.angled.Angled.{Angled}
use Rattle.postcard_schema_text.specs.declared.angled.Angled.TheVariants as kinds
use Rattle.postcard_schema_text.specs.Angled.{MayHold, IsHolderOf, IsTypeName, MayPair, IsPairOf}
use Rattle.postcard_schema_text.specs.Names.{NamesDiffer, IsNewTo}
use Rattle.postcard_schema_text.specs.Text.{AreBlank, Then, IsSign, IsMaybe, IsWord, IsIdentifier, IsVariantName, EndsWord, IsCount}

-- One or more items in a row with a sign between two of them. P says which texts denote an item.
abbrev pub Separated : {A : Type 0} → (A → List ℕ → Type 0) → ℕ → List A → List ℕ → Type 0
Separated P sign [] text = ⊥
Separated P sign (x ∷ []) text = P x text
Separated P sign (x ∷ y ∷ xs) text = Then (P x) (Then (IsSign sign) (Separated P sign (y ∷ xs))) text

-- A type and the sign after it.
abbrev pub IsEndedBy : (Schema → List ℕ → Type 0) → ℕ → Schema → List ℕ → Type 0
IsEndedBy T sign s text = Then (T s) (IsSign sign) text

-- A type of one type, where P says which texts denote that type.
abbrev pub IsOfOne : Holder → (Schema → List ℕ → Type 0) → Schema → List ℕ → Type 0
IsOfOne h P s text = (x : Schema) × MayHold h (type_of x) × IsHolderOf h x s × P x text

-- A type of two types, where P says which texts denote the first, and Q which denote the second.
abbrev pub IsOfTwo : Pair → (Schema → List ℕ → Type 0) → (Schema → List ℕ → Type 0) → Schema → List ℕ → Type 0
IsOfTwo p P Q s text = (x : Schema) × (y : Schema) × MayPair p (type_of x) (type_of y) × IsPairOf p x y s × Then (P x) (Q y) text

-- What follows a `[`: an element type, which has bytes, and then `]`, or for an array `;`, a count and `]`.
abbrev pub IsSeqRest : (Schema → List ℕ → Type 0) → Schema → List ℕ → Type 0
IsSeqRest T s text = (b : Box Schema Global) × (s ≡ Seq b) × (has_bytes (type_of b.value) ≡ true) × Then (T b.value) (IsSign 93) text

-- What follows the `[` of an array: an element type with bytes, `;`, a count and `]`.
abbrev pub IsArrayRest : (Schema → List ℕ → Type 0) → Schema → List ℕ → Type 0
IsArrayRest T s text =
    (b : Box Schema Global) × (n : ℕ) × (s ≡ Array b n) × (has_bytes (type_of b.value) ≡ true) × Then (T b.value) (Then (IsSign 59) (Then (IsCount n) (IsSign 93))) text

-- What follows a `[`: the rest of a list or of an array.
abbrev pub IsListRest : (Schema → List ℕ → Type 0) → Schema → List ℕ → Type 0
IsListRest T s text = IsSeqRest T s text ⊎ IsArrayRest T s text

-- The end of a tuple of n parts: `,` and `)`, or `)` alone if there are two parts or more.
abbrev pub IsTupleEnd : ℕ → List ℕ → Type 0
IsTupleEnd n text = Then (IsSign 44) (IsSign 41) text ⊎ ((1 < n) × IsSign 41 text)

-- What follows a `(`: nothing, one type, which is then the type itself, or the parts of a tuple; and then `)`.
abbrev pub IsTupleRest : (Schema → List ℕ → Type 0) → Schema → List ℕ → Type 0
IsTupleRest T s text =
    ((v : Vec Schema Global) × (s ≡ Tuple v) × (v.items ≡ []) × IsSign 41 text)
    ⊎ (Then (T s) (IsSign 41) text
    ⊎ ((v : Vec Schema Global) × (s ≡ Tuple v) × Then (Separated T 44 v.items) (IsTupleEnd (length v.items)) text))

-- A field: a name that doesn't begin with a digit, `:` and a type.
abbrev pub IsField : (Schema → List ℕ → Type 0) → Named Schema → List ℕ → Type 0
IsField T n text = IsIdentifier (string_bytes n.name) × Then (IsWord (string_bytes n.name)) (Then (IsSign 58) (T n.content)) text

-- What follows a `{` in a struct: fields with different names and then `}`. A comma may follow the last field.
abbrev pub IsFieldsRest : (Schema → List ℕ → Type 0) → Schema → List ℕ → Type 0
IsFieldsRest T s text = (v : Vec (Named Schema) Global) × (s ≡ Struct v) × NamesDiffer v.items
    × Then (Separated (IsField T) 44 v.items) (Then (IsMaybe 44) (IsSign 125)) text

-- The value type of a map, after its key type and the `=`: `>`, the type and `}`.
abbrev pub IsMapValue : (Schema → List ℕ → Type 0) → Schema → List ℕ → Type 0
IsMapValue T s text = Then (IsSign 62) (IsEndedBy T 125 s) text

-- What follows a `{` in a map: a key type, `=>`, a value type and `}`. At least one of the types has bytes.
abbrev pub IsMapRest : (Schema → List ℕ → Type 0) → Schema → List ℕ → Type 0
IsMapRest T s text = IsOfTwo pairs.Map (IsEndedBy T 61) (IsMapValue T) s text

-- What follows a `{`.
abbrev pub IsBracesRest : (Schema → List ℕ → Type 0) → Schema → List ℕ → Type 0
IsBracesRest T s text = IsFieldsRest T s text ⊎ IsMapRest T s text

-- What follows a `<`: one type, or two with `,` between them, and `>`.
abbrev pub IsAngledRest : (Schema → List ℕ → Type 0) → Angled → Schema → List ℕ → Type 0
IsAngledRest T (kinds.Holder holder) s text = IsOfOne holder (IsEndedBy T 62) s text
IsAngledRest T (kinds.Pair pair) s text = IsOfTwo pair (IsEndedBy T 44) (IsEndedBy T 62) s text

-- What follows the name of a type: nothing, or its types in `<` and `>`.
abbrev pub IsNamedRest : (Schema → List ℕ → Type 0) → TypeName → Schema → List ℕ → Type 0
IsNamedRest T (names.Leaf leaf) s text = (s ≡ schemas.Leaf leaf) × (text ≡ [])
IsNamedRest T (names.Angled kind) s text = Then (IsSign 60) (IsAngledRest T kind s) text

-- A type that begins with its name.
abbrev pub IsWorded : (Schema → List ℕ → Type 0) → Schema → List ℕ → Type 0
IsWorded T s text = (name : TypeName) × (word : List ℕ) × IsTypeName word name × Then (IsWord word) (IsNamedRest T name s) text

-- A type that is no enum, with no `&` before it and not followed by `?`.
abbrev pub IsPlain : (Schema → List ℕ → Type 0) → Schema → List ℕ → Type 0
IsPlain T s text =
    IsWorded T s text
    ⊎ (Then (IsSign 91) (IsListRest T s) text
    ⊎ (Then (IsSign 40) (IsTupleRest T s) text
    ⊎ Then (IsSign 123) (IsBracesRest T s) text))

-- What follows the `'` of a lifetime: its name, and then a phrase of P, which begins with no byte of a word.
abbrev pub IsLifetimeRest : (List ℕ → Type 0) → List ℕ → Type 0
IsLifetimeRest P text = (name : List ℕ) × IsIdentifier name × Then (IsWord name) (λ back. EndsWord back × P back) text

-- What follows the `&` of a reference: a phrase of P, with a lifetime before it or none.
abbrev pub IsReferenceRest : (List ℕ → Type 0) → List ℕ → Type 0
IsReferenceRest P text = P text ⊎ Then (IsSign 39) (IsLifetimeRest P) text

-- A type that is no enum, after n times `&`.
abbrev pub IsBehind : ℕ → (Schema → List ℕ → Type 0) → Schema → List ℕ → Type 0
IsBehind zero T s text = IsPlain T s text
IsBehind (suc n) T s text = Then (IsSign 38) (IsReferenceRest (IsBehind n T s)) text

-- A type that is no enum and not followed by `?`. References to a type have the schema of that type.
abbrev pub IsReferred : (Schema → List ℕ → Type 0) → Schema → List ℕ → Type 0
IsReferred T s text = (n : ℕ) × IsBehind n T s text

-- A type with n times `?` after it, where P says which texts denote the type without these.
abbrev pub IsOptions : ℕ → (Schema → List ℕ → Type 0) → Schema → List ℕ → Type 0
IsOptions zero P s text = P s text
IsOptions (suc n) P s text = (b : Box Schema Global) × (s ≡ Option b) × Then (IsOptions n P b.value) (IsSign 63) text

-- The content of a variant, after its name: a tuple, fields, or nothing.
abbrev pub IsContent : (Schema → List ℕ → Type 0) → Schema → List ℕ → Type 0
IsContent T s text =
    Then (IsSign 40) (IsTupleRest T s) text
    ⊎ (Then (IsSign 123) (IsFieldsRest T s) text
    ⊎ ((v : Vec Schema Global) × (s ≡ Tuple v) × (v.items ≡ []) × (text ≡ [])))

-- A variant: a name that begins with a capital letter, and the content.
abbrev pub IsVariantText : (Schema → List ℕ → Type 0) → Named Schema → List ℕ → Type 0
IsVariantText T n text = IsVariantName (string_bytes n.name) × Then (IsWord (string_bytes n.name)) (IsContent T n.content) text

-- A field or a variant of P with another name than each of `before`.
abbrev pub IsNew : List (Named Schema) → (Named Schema → List ℕ → Type 0) → Named Schema → List ℕ → Type 0
IsNew before P n text = IsNewTo before (string_bytes n.name) × P n text

-- The text before n variants: `|`, or nothing if there are two variants or more.
abbrev pub IsLead : ℕ → List ℕ → Type 0
IsLead n text = IsSign 124 text ⊎ ((1 < n) × (text ≡ []))

-- An enum: its variants, with different names and `|` between two of them.
abbrev pub IsEnumText : (Schema → List ℕ → Type 0) → Schema → List ℕ → Type 0
IsEnumText T s text = (v : Vec (Named Schema) Global) × (s ≡ Enum v) × NamesDiffer v.items
    × Then (IsLead (length v.items)) (Separated (IsVariantText T) 124 v.items) text

-- Any type, where T says which texts denote the types in its brackets.
abbrev pub IsTypeOver : (Schema → List ℕ → Type 0) → Schema → List ℕ → Type 0
IsTypeOver T s text = IsEnumText T s text ⊎ ((n : ℕ) × (n ≤ 4) × IsOptions n (IsReferred T) s text)

-- The text denotes the type, with types nested at most n deep in brackets, where the type itself has depth 1.
unfoldable pub IsType : ℕ → Schema → List ℕ → Type 0
IsType zero s text = ⊥
IsType (suc depth) s text = IsTypeOver (IsType depth) s text

-- The text is an expression of the type, with types nested at most 64 deep. Blanks may follow it.
abbrev pub IsExpression : Schema → List ℕ → Type 0
IsExpression s text = Then (IsType 64 s) AreBlank text

-- When a text begins with a type, and when it does so in one way only.
use Rattle.std.specs.Prelude.{◌≡◌, ℕ, ◌<◌, length, nat_eq, Bool, ◌||◌, ◌⊎◌, true, List, ◌∷◌, string_bytes, Result, IfOk, IfErr}
use Rattle.postcard_schema.specs.declared.schema.Named.{Named}
use Rattle.postcard_schema.specs.declared.schema.Schema.{Schema}
use Rattle.postcard_schema.specs.Meaning.{type_of}
use Rattle.postcard_schema_text.specs.declared.error.Problem.{Problem}
use Rattle.postcard_schema_text.specs.declared.error.Problem.TheVariants.{OutOfMemory}
use Rattle.postcard_schema_text.specs.declared.scan.ProblemAt.{ProblemAt}
use Rattle.postcard_schema_text.specs.Text.{unblank, TakesPhrase, IsSign, IsWord, IsVariantName}

-- The signs that may follow a type: `]`, `;`, `)`, `,`, `}`, `=` and `>`.
abbrev pub follows_type : ℕ → Bool
follows_type b = nat_eq b 93 || (nat_eq b 59 || (nat_eq b 41 || (nat_eq b 44 || (nat_eq b 125 || (nat_eq b 61 || nat_eq b 62)))))

-- The signs that may follow a variant: these and `|`.
abbrev pub follows_variant : ℕ → Bool
follows_variant b = nat_eq b 124 || follows_type b

-- The text begins with a word, not an empty one, and then a `:`.
abbrev pub IsNamed : List ℕ → Type 0
IsNamed text = (word : List ℕ) × (after : List ℕ) × (rest : List ℕ) × (0 < length word) × TakesPhrase (IsWord word) text after
    × TakesPhrase (IsSign 58) after rest

-- The first byte after blanks passes the test.
abbrev pub Starts : (ℕ → Bool) → List ℕ → Type 0
Starts passes text = (x : ℕ) × (after : List ℕ) × (unblank text ≡ x ∷ after) × (passes x ≡ true)

-- The signs that may follow the name of an enum's first variant: `|`, `(` and `{`.
abbrev pub follows_name : ℕ → Bool
follows_name x = nat_eq x 124 || (nat_eq x 40 || nat_eq x 123)

-- The text begins with the name of a variant, and then with one of these signs.
abbrev pub StartsVariant : List ℕ → Type 0
StartsVariant text = (word : List ℕ) × (after : List ℕ) × IsVariantName word × TakesPhrase (IsWord word) text after × Starts follows_name after

-- The text begins as an enum: with `|` or such a name.
abbrev pub StartsEnum : List ℕ → Type 0
StartsEnum text = ((rest : List ℕ) × TakesPhrase (IsSign 124) text rest) ⊎ StartsVariant text

-- Any text.
abbrev pub Anything : List ℕ → Type 0
Anything text = Unit {0}

-- A prefix of the text is a phrase of P for some x, and what follows it is of Next.
abbrev pub HasFront : {A : Type 0} → (List ℕ → Type 0) → (A → List ℕ → Type 0) → List ℕ → Type 0
HasFront {A} Next P text = (x : A) × (rest : List ℕ) × TakesPhrase (P x) text rest × Next rest

-- Each such x is the same as y, and `rest` is what follows.
abbrev pub IsOnlyFront : {A : Type 0} → (A → A → Type 0) → (List ℕ → Type 0) → (A → List ℕ → Type 0) → A → List ℕ → List ℕ → Type 0
IsOnlyFront {A} Same Next P y text rest = (x : A) (after : List ℕ) → TakesPhrase (P x) text after → Next after → Same x y × (after ≡ rest)

-- A refusal with this problem: an allocation failed, or there is nothing to accept.
abbrev pub IsRefusal : Problem → Type 0 → Type 0
IsRefusal problem Accepted = (problem ≡ OutOfMemory) ⊎ (Accepted → ⊥)

-- A call that reads from the start of the text, and leaves `rest`. It takes a phrase of P. Each phrase of P there is the same as this one, if
-- a text of Next follows it. The call refuses a text that has no such phrase.
pub record Reads {A : Type 0} (Same : A → A → Type 0) (Next : List ℕ → Type 0) (P : A → List ℕ → Type 0) (text : List ℕ)
    (result : Result A ProblemAt) (rest : List ℕ) : Type 0 where
  pub spelled : IfOk result (λ y. TakesPhrase (P y) text rest)
  pub one : IfOk result (λ y. IsOnlyFront Same Next P y text rest)
  pub refused : IfErr result (λ found. IsRefusal found.problem (HasFront Next P text))

-- The schemas have the same type.
abbrev pub SameType : Schema → Schema → Type 0
SameType x y = type_of x ≡ type_of y

-- The fields or variants have the same name, and contents of the same type.
abbrev pub SameNamed : Named Schema → Named Schema → Type 0
SameNamed x y = SameType x.content y.content × (string_bytes x.name ≡ string_bytes y.name)

-- A call that reads a type.
abbrev pub ReadsType : (List ℕ → Type 0) → (Schema → List ℕ → Type 0) → List ℕ → Result Schema ProblemAt → List ℕ → Type 0
ReadsType = Reads SameType

-- A call that reads a field or a variant.
abbrev pub ReadsNamed : (List ℕ → Type 0) → (Named Schema → List ℕ → Type 0) → List ℕ → Result (Named Schema) ProblemAt → List ℕ → Type 0
ReadsNamed = Reads SameNamed

-- Raw literals, in which `\` is a letter as any other. The byte 34 is `"`, and 35 is `#`.
use Rattle.std.specs.Prelude.{◌≡◌, ℕ, Bool, ◌==◌, ◌⊎◌, List, ◌∷◌, ◌++◌, codes}
use Rattle.postcard_source.specs.Steps.{Steps}
use Rattle.postcard_source.specs.Tokens.{IsFrontBy, IsWordFront}

-- The byte is `#`.
abbrev pub is_hash : ℕ → Bool
is_hash b = b == 35

-- The text begins with these `#`, which may be none, and `rest` is left, which begins with no `#`.
abbrev pub IsHashFront : List ℕ → List ℕ → List ℕ → Type 0
IsHashFront hashes text rest = IsFrontBy is_hash hashes text rest

-- The word is the prefix of a raw literal: `r`, `br` or `cr`.
abbrev pub IsRawPrefix : List ℕ → Type 0
IsRawPrefix word = (word ≡ codes "r") ⊎ ((word ≡ codes "br") ⊎ (word ≡ codes "cr"))

-- The text begins with the prefix of a raw literal, these `#` and a quote, and `inner` is left.
abbrev pub IsRawOpening : List ℕ → List ℕ → List ℕ → Type 0
IsRawOpening hashes text inner = (word : List ℕ) × (after : List ℕ) × IsRawPrefix word × IsWordFront word text after × IsHashFront hashes after (34 ∷ inner)

-- The text begins with bytes up to the first quote that these `#` follow, then has the quote and the `#`, and `rest` is left.
abbrev pub IsRawQuoted : List ℕ → List ℕ → List ℕ → Type 0
IsRawQuoted hashes text rest = (last : List ℕ)
    × Steps (λ a b. ((letter : ℕ) × (a ≡ letter ∷ b)) × ((after : List ℕ) → a ≡ 34 ∷ hashes ++ after → ⊥)) text last × (last ≡ 34 ∷ hashes ++ rest)

-- The text begins with a raw literal, which is the token, and `rest` is left.
abbrev pub IsRaw : List ℕ → List ℕ → List ℕ → Type 0
IsRaw token text rest = (hashes : List ℕ) × (inner : List ℕ) × IsRawOpening hashes text inner × IsRawQuoted hashes inner rest × (text ≡ token ++ rest)

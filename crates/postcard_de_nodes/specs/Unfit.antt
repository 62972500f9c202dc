-- Why reading a single node fails, for the nodes that aren't numbers or texts (behaviour of
-- postcard 1.1.3).
use Rattle.std.specs.Prelude.{◌≡◌, ℕ, ◌<◌, ◌≤◌, ◌^◌, ◌⊎◌, List, [], ◌∷◌, ◌++◌, length, Err}
use Rattle.std.specs.Prelude.{IsUtf8}
use Rattle.postcard_wire.specs.declared.error.Error.{Error}
use Rattle.postcard_wire.specs.declared.error.Error.TheVariants.{DeserializeBadBool}
use Rattle.postcard_wire.specs.declared.error.Error.TheVariants.{DeserializeBadOption}
use Rattle.postcard_wire.specs.declared.error.Error.TheVariants.{DeserializeBadChar, OutOfMemory}
use Rattle.postcard_wire.specs.declared.error.Error.TheVariants.{SerdeDeCustom}
use Rattle.postcard_wire.specs.Number.{SpellsNum}
use Rattle.postcard_wire.specs.Tree.{Tree}
use Rattle.postcard_wire.specs.Spelling.{Spells, BeginsWithChar}
use Rattle.postcard_de_flavors.specs.Source.{Takes}
use Rattle.postcard_de_flavors.specs.declared.flavor.Flavor.{Ghosts}
use Rattle.postcard_de_nodes.specs.Reads.{Reads}
use Rattle.postcard_de_nodes.specs.Refuses.{WantsDigit, BadNumber, BadText}

-- A byte was taken that is neither 0 nor 1.
abbrev pub NotABit : List ℕ → Type 0
NotABit p = (b : ℕ) × (p ≡ b ∷ []) × (1 < b)

-- A byte that is neither 0 nor 1 is no boolean.
abbrev pub BadBool : List ℕ → Error → Type 0
BadBool p e = (e ≡ DeserializeBadBool) × NotABit p

-- A byte that is neither 0 nor 1 begins no option.
abbrev pub BadOption : List ℕ → Error → Type 0
BadOption p e = (e ≡ DeserializeBadOption) × NotABit p

-- The next byte of a character's length is wanted, or, after a length n of at most 4, n bytes.
abbrev pub WantsChar : List ℕ → ℕ → Type 0
WantsChar p n = WantsDigit 64 p n ⊎ (SpellsNum 64 n p × (n ≤ 4))

-- A length of 64 bits above 4 was taken.
abbrev pub TooLong : List ℕ → Type 0
TooLong p = (n : ℕ) × SpellsNum 64 n p × (n < 2 ^ 64) × (4 < n)

-- A length of at most 4 and that many bytes were taken, and these don't begin with a character or
-- aren't UTF-8.
abbrev pub NoChar : List ℕ → Type 0
NoChar p = (q : List ℕ) × (u : List ℕ) × SpellsNum 64 (length u) q × (p ≡ q ++ u)
    × (length u ≤ 4) × ((c : ℕ) → BeginsWithChar c u → ⊥)

-- The length is bad or above 4, or the bytes after it are no character.
abbrev pub BadChar : List ℕ → Error → Type 0
BadChar p e = BadNumber 64 p e ⊎ ((e ≡ DeserializeBadChar) × (TooLong p ⊎ NoChar p))

-- The length of a byte string is bad, or there is no memory for a copy of the bytes after it.
abbrev pub BadBytes : List ℕ → Error → Type 0
BadBytes p e = BadNumber 64 p e ⊎ ((e ≡ OutOfMemory)
    × ((q : List ℕ) × (u : List ℕ) × SpellsNum 64 (length u) q × (p ≡ q ++ u)))

-- The byte 1 was taken, and reading the content after it fails with the error e.
abbrev pub ContentRefuses : {S M O V : Type 0} → Ghosts S M O → (Tree → Type 0) →
    (Tree → V → Type 0) → (Error → Type 0) → S → Error → S → Type 0
ContentRefuses {S} F reads value other old e new = (mid : S) × Takes F.left F.able old (1 ∷ []) mid
    × Reads F Spells reads value other mid (Err e) new

-- The byte 0 was taken, by a type without 0.
abbrev pub ZeroByte : List ℕ → Error → Type 0
ZeroByte p e = (e ≡ SerdeDeCustom) × (p ≡ 0 ∷ [])

-- The bytes are no number of w bits, or they are the number 0, by a type without 0.
abbrev pub ZeroNumber : ℕ → List ℕ → Error → Type 0
ZeroNumber w p e = BadNumber w p e ⊎ ((e ≡ SerdeDeCustom) × SpellsNum w 0 p)

-- The bytes are no index, or they are the index i of no variant, since there are only n.
abbrev pub BadIndex : ℕ → List ℕ → Error → Type 0
BadIndex n p e = BadNumber 32 p e ⊎ ((e ≡ SerdeDeCustom)
    × ((i : ℕ) × SpellsNum 32 i p × (i < 2 ^ 32) × (n ≤ i)))

-- The index i of a variant was taken, and reading the content after it fails with the error e.
abbrev pub VariantRefuses : {S M O V : Type 0} → Ghosts S M O → ℕ → (Tree → Type 0) →
    (Tree → V → Type 0) → (Error → Type 0) → S → Error → S → Type 0
VariantRefuses {S} F i reads value other old e new = (p : List ℕ) × SpellsNum 32 i p × ((mid : S)
    × Takes F.left F.able old p mid × Reads F Spells reads value other mid (Err e) new)

-- A text of more than n bytes was taken.
abbrev pub LongText : ℕ → List ℕ → Type 0
LongText n p = (q : List ℕ) × (u : List ℕ) × SpellsNum 64 (length u) q × (p ≡ q ++ u) × IsUtf8 u
    × (n < length u)

-- The bytes are no text, or are a text of more than n bytes.
abbrev pub BadShortText : ℕ → List ℕ → Error → Type 0
BadShortText n p e = BadText ⊥ p e ⊎ ((e ≡ SerdeDeCustom) × LongText n p)

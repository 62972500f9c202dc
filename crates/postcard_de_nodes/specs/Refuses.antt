-- Why a call that reads one node fails (behaviour of postcard 1.1.3: the errors of its
-- `deserialize_*` calls). Over a source that fails only if too few bytes are left, as the one over
-- a slice, each reason is exact.
use Rattle.std.specs.Prelude.{◌≡◌, ℕ, ◌<◌, ◌^◌, ◌⊎◌, List, [], ◌++◌, length, IsUtf8}
use Rattle.postcard_wire.specs.declared.error.Error.{Error}
use Rattle.postcard_wire.specs.declared.error.Error.TheVariants.{DeserializeUnexpectedEnd}
use Rattle.postcard_wire.specs.declared.error.Error.TheVariants.{DeserializeBadVarint}
use Rattle.postcard_wire.specs.declared.error.Error.TheVariants.{DeserializeBadUtf8, OutOfMemory}
use Rattle.postcard_wire.specs.Number.{max_digits, GoesOn, SpellsNum, SpellsNone}
use Rattle.postcard_de_flavors.specs.Source.{Left, Takes}
use Rattle.postcard_de_flavors.specs.declared.flavor.Flavor.{Ghosts}

-- A front was taken after which n more bytes are wanted, and the source isn't able to give them.
pub record Ends {S : Type 0} (wants : List ℕ → ℕ → Type 0) (left : S → Left)
    (able : S → ℕ → Type 0) (old : S) : Type 0 where
  pub front : List ℕ
  pub after_front : S
  pub taken : Takes left able old front after_front
  pub count : ℕ
  pub wanted : wants front count
  pub lacks : able after_front count → ⊥

-- A front was taken that is refused with the error e.
pub record IsBad {S : Type 0} (bad : List ℕ → Error → Type 0) (left : S → Left)
    (able : S → ℕ → Type 0) (old : S) (e : Error) (new : S) : Type 0 where
  pub front : List ℕ
  pub taken : Takes left able old front new
  pub why : bad front e

-- A call fails with the error e: the bytes end although more are wanted, or a front was taken that is
-- bad. Its source has `left s` left and is `able s n` to give n bytes.
abbrev pub RefusesFrom : {S : Type 0} → (List ℕ → ℕ → Type 0) → (List ℕ → Error → Type 0) →
    (S → Left) → (S → ℕ → Type 0) → S → Error → S → Type 0
RefusesFrom wants bad left able old e new =
    ((e ≡ DeserializeUnexpectedEnd) × Ends wants left able old) ⊎ IsBad bad left able old e new

-- A call over a source of a flavor with the ghosts F fails with the error e: the bytes end although
-- more are wanted, or a front was taken that is bad.
abbrev pub Refuses : {S M O : Type 0} → Ghosts S M O → (List ℕ → ℕ → Type 0) →
    (List ℕ → Error → Type 0) → S → Error → S → Type 0
Refuses F wants bad old e new = RefusesFrom wants bad F.left F.able old e new

-- A byte is wanted before anything else.
abbrev pub WantsByte : List ℕ → ℕ → Type 0
WantsByte p n = (p ≡ []) × (n ≡ 1)

-- n bytes are wanted before anything else.
abbrev pub WantsBytes : ℕ → List ℕ → ℕ → Type 0
WantsBytes n p m = (p ≡ []) × (m ≡ n)

-- No front is refused.
abbrev pub NoneBad : List ℕ → Error → Type 0
NoneBad p e = ⊥

-- One more byte is wanted after bytes that begin a number of w bits and don't end it.
abbrev pub WantsDigit : ℕ → List ℕ → ℕ → Type 0
WantsDigit w p n = GoesOn p × (length p < max_digits w) × (n ≡ 1)

-- Bytes of the greatest length of a number of w bits that spell no such number.
abbrev pub BadNumber : ℕ → List ℕ → Error → Type 0
BadNumber w p e = (e ≡ DeserializeBadVarint) × SpellsNone w p

-- The next byte of the length is wanted, or, after the length, the number of bytes that it says.
abbrev pub WantsText : List ℕ → ℕ → Type 0
WantsText p n = WantsDigit 64 p n ⊎ (SpellsNum 64 n p × (n < 2 ^ 64))

-- The length is bad, or the bytes after it aren't UTF-8, or they are and there is no memory for a
-- copy.
abbrev pub BadText : Type 0 → List ℕ → Error → Type 0
BadText grows p e = BadNumber 64 p e ⊎ ((q : List ℕ) × (u : List ℕ) × SpellsNum 64 (length u) q
    × (p ≡ q ++ u)
    × (((e ≡ DeserializeBadUtf8) × (IsUtf8 u → ⊥)) ⊎ ((e ≡ OutOfMemory) × IsUtf8 u × grows)))

-- Numbers that are read byte by byte, and the ways in which bytes fail to begin with one.
use Rattle.std.specs.Prelude.{◌≡◌, ℕ, ◌*◌, ◌+◌, ◌-◌, ◌/◌, ◌<◌, ◌≤◌, ◌^◌, ◌⊎◌, List, ◌++◌, length, Option, Some, None, Result, Ok, Err}
use Rattle.postcard_wire.specs.Number.{max_digits, number, GoesOn, SpellsNum, SpellsNone}
use Rattle.postcard_wire.specs.declared.error.Error.{Error}
use Rattle.postcard_wire.specs.declared.error.Error.TheVariants.{DeserializeBadVarint, DeserializeUnexpectedEnd}
use Rattle.postcard_wire.specs.declared.digits.Digits.{Digits}

-- The bytes p were read as the beginning of a number of w bits that goes on, and `digits` is the
-- accumulator after them.
pub record HasRead (w : ℕ) (p : List ℕ) (digits : Digits) : Type 0 where
  pub high : GoesOn p
  pub count : digits.count ≡ length p
  pub value : digits.value ≡ number p
  pub fewer : length p < max_digits w

-- The result of `Digits::push` once the bytes p are read: `None` if more bytes follow, the number
-- that p spells, or `DeserializeBadVarint` if p has the full length of a number and spells none of
-- w bits.
abbrev pub PushReturns : ℕ → List ℕ → Digits → Result (Option ℕ) Error → Type 0
PushReturns w p digits (Ok None) = HasRead w p digits
PushReturns w p digits (Ok (Some n)) = SpellsNum w n p × (n < 2 ^ w)
PushReturns w p digits (Err e) = (e ≡ DeserializeBadVarint) × SpellsNone w p

-- The digit of the byte b at place i, counted from 0, fits in w bits. A byte of 128 or more doesn't
-- fit at the last place.
abbrev pub Within : ℕ → ℕ → ℕ → Type 0
Within w i b = (7 * i + 7 ≤ w) ⊎ (b / 2 ^ (w - 7 * i) ≡ 0)

-- The bytes end within a number of w bits: each says that another follows, and they are fewer than
-- its width allows.
abbrev pub EndsWithin : ℕ → List ℕ → Type 0
EndsWithin w p = GoesOn p × (length p < max_digits w)

-- A front of the bytes spells the number n of w bits, and rest is what follows that front.
abbrev pub ReadsNum : ℕ → List ℕ → ℕ → List ℕ → Type 0
ReadsNum w bytes n rest = (p : List ℕ) × SpellsNum w n p × (n < 2 ^ w) × (bytes ≡ p ++ rest)

-- Why no front of the bytes spells a number of w bits: they end within a number, or their first
-- bytes have the full length of a number and spell none.
abbrev pub RefusesNum : ℕ → List ℕ → Error → Type 0
RefusesNum w bytes e = ((e ≡ DeserializeUnexpectedEnd) × EndsWithin w bytes)
    ⊎ ((e ≡ DeserializeBadVarint) × ((p : List ℕ) × (rest : List ℕ) × SpellsNone w p × (bytes ≡ p ++ rest)))

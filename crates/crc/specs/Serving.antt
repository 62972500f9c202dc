-- What functions say of an algorithm of the program and its tables, by the words of the trait `Width`.
use Rattle.std.specs.Prelude.{ℕ, ◌*◌, ◌++◌, List}
use Rattle.crc.specs.declared.algorithm.Algorithm.{Algorithm}
use Rattle.crc.specs.declared.width.Width.{Ghosts}
use Rattle.crc.specs.Algorithm.{parameters}
use Rattle.crc.specs.Crc.{IsValid}
use Rattle.crc.specs.Damage.{HasOrderFrom}
use Rattle.crc.specs.Register.{AreEntries, Holds}

module _ {W : Type 0} (F : Ghosts W) where
  -- The parameters of the algorithm fit in the numbers of its type.
  abbrev pub IsServable : Algorithm W → Type 0
  IsServable a = IsValid (8 * F.size) (parameters F.number a)

  -- The first `count` of the numbers are the entries of the algorithm's tables.
  abbrev pub Serve : Algorithm W → ℕ → List ℕ → Type 0
  Serve a count entries = AreEntries (8 * F.size) (parameters F.number a) count entries

  -- If the register `old` holds what it should of some bytes, whatever the initial value, then `new` does of these and
  -- then the bytes given.
  abbrev pub HoldsMore : Algorithm W → W → List ℕ → W → Type 0
  HoldsMore algorithm old bytes new = (i : ℕ) (m : List ℕ) → let a = record (parameters F.number algorithm) { init = i } in
      Holds (8 * F.size) a (F.number old) m → Holds (8 * F.size) a (F.number new) (m ++ bytes)

-- The order of x modulo the generator of the algorithm, whose type is one of plain numbers, is at least k.
abbrev pub HasOrderOf : ℕ → Algorithm ℕ → Type 0
HasOrderOf k a = HasOrderFrom k (parameters (λ n. n) a)

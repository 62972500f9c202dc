-- Trees: what a message says, whatever its type (wire format 1.0, chapter "the serde data model").
use Rattle.std.specs.Prelude.{◌≡◌, ℕ, suc, ◌<◌, ◌^◌, ◌⊎◌, Bool, List, [], ◌∷◌, length, ℤ, IsUtf8}
use Rattle.std.specs.Char.{IsScalar}
use Rattle.postcard_wire.specs.Number.{InRange}

mutual
  -- Byte: `u8` and `i8`. Boolean: `bool`. Num, Int: unsigned and signed numbers of 16, 32, 64 or
  -- 128 bits. Char: a character, by its code. Text: a text, by its UTF-8 bytes. Absent, Present: an
  -- option. Group: parts with no count before them, as of tuples, structs, arrays and units. Seq: a
  -- counted list; a byte string is a Seq of Bytes, a map a Seq of Groups of two. Variant: an enum's
  -- index and content.
  pub data Tree : Type 0 where
    Byte : ℕ → Tree
    Boolean : Bool → Tree
    Num : (width n : ℕ) → Tree
    Int : (width : ℕ) → ℤ → Tree
    Char : ℕ → Tree
    Text : List ℕ → Tree
    Absent : Tree
    Present : Tree → Tree
    Group : Trees → Tree
    Seq : Trees → Tree
    Variant : ℕ → Tree → Tree

  pub data Trees : Type 0 where
    NoTrees : Trees
    Then : Tree → Trees → Trees

-- The trees of a list, in order, as a row.
abbrev pub trees : List Tree → Trees
trees [] = NoTrees
trees (t ∷ ts) = Then t (trees ts)

-- The number of trees in a row.
abbrev pub count : Trees → ℕ
count NoTrees = 0
count (Then t ts) = suc (count ts)

-- w is a width of varints, in bits.
abbrev pub IsWidth : ℕ → Type 0
IsWidth w = (w ≡ 16) ⊎ (w ≡ 32) ⊎ (w ≡ 64) ⊎ (w ≡ 128)

-- Each part of the tree is in its range. Only well-formed trees have a meaning.
abbrev mutual
  pub WellFormed : Tree → Type 0
  WellFormed (Byte b) = b < 256
  WellFormed (Boolean x) = Unit {0}
  WellFormed (Num w n) = IsWidth w × (n < 2 ^ w)
  WellFormed (Int w z) = IsWidth w × InRange w z
  WellFormed (Char c) = IsScalar c
  WellFormed (Text u) = IsUtf8 u × (length u < 2 ^ 64)
  WellFormed Absent = Unit {0}
  WellFormed (Present t) = WellFormed t
  WellFormed (Group ts) = AreWellFormed ts
  WellFormed (Seq ts) = (count ts < 2 ^ 64) × AreWellFormed ts
  WellFormed (Variant i t) = (i < 2 ^ 32) × WellFormed t

  pub AreWellFormed : Trees → Type 0
  AreWellFormed NoTrees = Unit {0}
  AreWellFormed (Then t ts) = WellFormed t × AreWellFormed ts

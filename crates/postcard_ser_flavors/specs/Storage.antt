-- The laws that the words of each storage keep, and what setting a byte does.
use Rattle.std.specs.Prelude.{◌≡◌, ℕ, ◌+◌, ◌^◌, ◌<◌, List, ◌++◌, length, slice_index, slice_set}

-- If bytes are free, so are fewer, and two proofs that bytes are free are equal.
pub record IsFree {S : Type 0} (free : S → ℕ → Type 0) : Type 0 where
  pub free_fewer : (s : S) (m n : ℕ) → free s (m + n) → free s m
  pub free_prop : (s : S) (n : ℕ) → IsProp (free s n)

-- What is appended is held after what was held before. The storage has room for as many bytes as
-- are free, and once some of them are appended, the others stay free.
pub record IsStorage {S : Type 0} (appended : S → List ℕ → S → Type 0) (room : S → List ℕ → Type 0) (reaches : S → S → Type 0) (held : S → List ℕ) (free : S → ℕ → Type 0) : Type 0 where
  pub held_more : (s t : S) (x : List ℕ) → appended s x t → held t ≡ held s ++ x
  pub free_room : (s : S) (x : List ℕ) → free s (length x) → room s x
  pub free_rest : (s t : S) (x : List ℕ) (n : ℕ) → free s (length x + n) → appended s x t → reaches s t → free t n

-- A place that is held may be read, and shows the byte there.
pub record IsIndexed {S : Type 0} (can_index : S → ℕ → Type 0) (index_gives : S → ℕ → ℕ → Type 0) (held : S → List ℕ) : Type 0 where
  pub can_read : (s : S) (place : ℕ) → place < length (held s) → can_index s place
  pub reads : (s : S) (place byte : ℕ) → place < length (held s) → index_gives s place byte → byte ≡ slice_index (held s) place

-- A call set the byte at a place that is held, in a storage in state s, and left t. Nothing else that is held
-- changed, there is room for the same bytes and as many are free, pushes may leave t, and the number of bytes
-- held fits a `usize`.
pub record SetsByte {S : Type 0} (room : S → List ℕ → Type 0) (reaches : S → S → Type 0) (held : S → List ℕ) (free : S → ℕ → Type 0) (s : S) (place byte : ℕ) (t : S) : Type 0 where
  pub sets : held t ≡ slice_set (held s) place byte
  pub keeps_room : (x : List ℕ) → room s x → room t x
  pub keeps_free : (n : ℕ) → free s n → free t n
  pub leaves : reaches s t
  pub countable : length (held t) < 2 ^ 64

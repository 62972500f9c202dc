-- What a contract sees of the flavor that fills a slice from its front (behaviour of postcard
-- 1.1.3, as is that a piece is written whole or not at all).
use Rattle.std.specs.Prelude.{◌≡◌, ℕ, ◌+◌, ◌≤◌, List, ◌++◌, take, drop, length}
use Rattle.std.specs.Borrow.{GName}

-- The name of the loan of the slice, the bytes of the whole slice, and the number of bytes held at
-- its front.
pub record Written : Type 0 where
  pub loan : GName
  pub buffer : List ℕ
  pub count : ℕ

-- The bytes held.
abbrev pub held : Written → List ℕ
held s = take s.count s.buffer

-- The bytes after those held, which are still to be written.
abbrev pub free : Written → List ℕ
free s = drop s.count s.buffer

-- State t holds what s did, followed by x.
abbrev pub Appended : Written → List ℕ → Written → Type 0
Appended s x t = held t ≡ held s ++ x

-- The bytes x fit after those held.
abbrev pub HasRoom : Written → List ℕ → Type 0
HasRoom s x = length (held s) + length x ≤ length s.buffer

-- Pushes may make t of s: it has the same slice, holds as many bytes or more, and the bytes after
-- them are unchanged.
pub record Reaches (s t : Written) : Type 0 where
  pub same_loan : t.loan ≡ s.loan
  pub same_length : length t.buffer ≡ length s.buffer
  pub grows : s.count ≤ t.count
  pub bytes_after_unchanged : drop t.count t.buffer ≡ drop t.count s.buffer

-- What a caller's buffer holds at the end.
use Rattle.std.specs.Prelude.{◌≡◌, ℕ, List, ◌++◌, drop, length}

-- The buffer begins with the bytes xs, and has its old bytes after them.
abbrev pub Fills : List ℕ → List ℕ → List ℕ → Type 0
Fills xs old new = new ≡ xs ++ drop (length xs) old

-- The buffer begins with a prefix of the bytes xs, and has its old bytes after that.
pub record FillsFront (xs old new : List ℕ) : Type 0 where
  pub front : List ℕ
  pub rest : List ℕ
  pub joins : xs ≡ front ++ rest
  pub fills : Fills front old new

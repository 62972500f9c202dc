-- What the words of a writing flavor mean and which laws they keep (own definitions; the Rust crate
-- leaves them to its documentation).
use Rattle.std.specs.Prelude.{◌≡◌, ℕ, List, [], ◌++◌, Result, IsOk, IfOk, OnOk, OnErr}

-- State t is state s with a beginning of xs appended, which may be none of it or all.
pub record AppendsFront {S : Type 0} (appended : S → List ℕ → S → Type 0) (s : S) (xs : List ℕ) (t : S) : Type 0 where
  pub front : List ℕ
  pub rest : List ℕ
  pub joins : xs ≡ front ++ rest
  pub given : appended s front t

-- The laws of a flavor. Appending nothing changes nothing, and two lists appended are their join
-- appended. Room for a list is room for its front, and for its rest once the front is appended.
-- Without a push the state stays the same, pushes in a row reach the last state, and two proofs that a state is
-- reached are equal.
pub record IsFlavor {S : Type 0} (appended : S → List ℕ → S → Type 0) (room : S → List ℕ → Type 0) (reaches : S → S → Type 0) : Type 0 where
  pub appended_none : (s : S) → appended s [] s
  pub appended_join : (s t u : S) (x y : List ℕ) → appended s x t → appended t y u → appended s (x ++ y) u
  pub room_front : (s : S) (x y : List ℕ) → room s (x ++ y) → room s x
  pub room_rest : (s t : S) (x y : List ℕ) → room s (x ++ y) → appended s x t → reaches s t → room t y
  pub reaches_self : (s : S) → reaches s s
  pub reaches_join : (s t u : S) → reaches s t → reaches t u → reaches s u
  pub reaches_prop : (s t : S) → IsProp (reaches s t)

-- A call that passes the bytes xs to a flavor in state s returned r and left t. After a success, just xs is
-- appended; with room for xs the call succeeds; a tidy flavor that refuses has appended a beginning of xs; in any
-- case pushes may leave t.
pub record Pushed {S T E : Type 0} (appended : S → List ℕ → S → Type 0) (room : S → List ℕ → Type 0) (tidy : Type 0) (reaches : S → S → Type 0) (s : S) (xs : List ℕ) (r : Result T E) (t : S) : Type 0 where
  pub appends : OnOk r (appended s xs t)
  pub has_room : room s xs → IsOk r
  pub refused : OnErr r (tidy → AppendsFront appended s xs t)
  pub leaves : reaches s t

-- The call that ends the message of a flavor in state s returned r: after a success the output of s. With room
-- for no bytes it succeeds.
pub record Finalized {S O E : Type 0} (room : S → List ℕ → Type 0) (finishes : S → O → Type 0) (s : S) (r : Result O E) : Type 0 where
  pub gives : IfOk r (λ output. finishes s output)
  pub closes : room s [] → IsOk r

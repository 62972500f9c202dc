-- What taking bytes does to a source (interface of the reading flavors of postcard 1.1.3). `left s`
-- is what the source s has left.
-- `able s n` says that taking the next n bytes succeeds, in whatever pieces.
use Rattle.std.specs.Prelude.{◌≡◌, ℕ, ◌+◌, ◌≤◌, List, [], ◌++◌, length, drop, Option, None, Some, Result, IfOk, OnErr}
use Rattle.std.specs.Borrow.{Bor}
use Rattle.std.specs.Io.KnownBytes.{Consumes}

-- What a source has left: the bytes, or `None` if it doesn't know them, and the scratch for bytes that
-- it lends, if it needs any.
pub record Left : Type 0 where
  pub bytes : Option (List ℕ)
  pub scratch : List ℕ

-- These bytes are left, and no scratch is needed.
abbrev pub known : List ℕ → Left
known s = record { bytes = Some s; scratch = [] }

-- What n bytes that were taken leave of the scratch: a part at its rear, in which only bytes among the
-- first n of the whole may have changed.
pub record KeepsRear (n : ℕ) (old new : List ℕ) : Type 0 where
  pub start : List ℕ
  pub is : new ≡ start ++ drop n old
  pub shorter : length new ≤ length old

-- The bytes left are known, and begin with p.
abbrev pub Begins : Option (List ℕ) → List ℕ → Type 0
Begins None p = ⊥
Begins (Some bytes) p = (rest : List ℕ) × (bytes ≡ p ++ rest)

-- The bytes left are known and begin with p, and taking p succeeds, in whatever pieces.
pub record CanTake {S : Type 0} (left : S → Left) (able : S → ℕ → Type 0) (s : S) (p : List ℕ) : Type 0 where
  pub begins : Begins (left s).bytes p
  pub enough : able s (length p)

-- The bytes p were taken from the front, and of the scratch a part at its rear is left. If the source
-- was able to give p and n bytes more, it is now able to give those n bytes.
pub record Takes {S : Type 0} (left : S → Left) (able : S → ℕ → Type 0) (old : S) (p : List ℕ) (new : S) : Type 0 where
  pub drops : Consumes (left old).bytes (left new).bytes p
  pub scratch : KeepsRear (length p) (left old).scratch (left new).scratch
  pub keeps : (n : ℕ) → able old (length p + n) → able new n

-- The laws of a source. If it is able to give n bytes, it is able to give fewer. A call may leave
-- the state as it is, and what two calls in a row may leave, one call may leave.
pub record Laws {S : Type 0} (left : S → Left) (able : S → ℕ → Type 0) (may_leave : S → S → Type 0) : Type 0 where
  pub fewer : (s : S) (m n : ℕ) → m ≤ n → able s n → able s m
  pub itself : (s : S) → may_leave s s
  pub joins : (s t u : S) → may_leave s t → may_leave t u → may_leave s u

-- The state of a source after the loan of a front: if a front was lent, it was taken. In any case
-- the state is one that a call may leave.
abbrev pub LendsFront : {S E : Type 0} → (S → Left) → (S → ℕ → Type 0) → (S → S → Type 0) → S → Result (Bor (List ℕ)) E → S → Type 0
LendsFront left able may_leave old lent new = IfOk lent (λ front. Takes left able old front.now new) × may_leave old new

-- The state of a source over a list after the loan of a front: the rest of the list, or the whole
-- list if no front was lent.
abbrev pub LeavesRest : {E : Type 0} → List ℕ → Result (Bor (List ℕ)) E → List ℕ → Type 0
LeavesRest old lent new = IfOk lent (λ front. old ≡ front.now ++ new) × OnErr lent (new ≡ old)

-- The list t is an end of s.
abbrev pub IsEndOf : List ℕ → List ℕ → Type 0
IsEndOf t s = (p : List ℕ) × (s ≡ p ++ t)

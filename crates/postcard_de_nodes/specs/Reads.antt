-- What a reading call does, for any kind of thing that is spelled: a tree, trees in a row, or a
-- number alone.
use Rattle.std.specs.Prelude.{◌≡◌, ℕ, ◌<◌, ◌≤◌, List, ◌++◌, length, Result, Ok, IfOk, IfErr, MatchResult, ⊤}
use Rattle.postcard_wire.specs.declared.error.Error.{Error}
use Rattle.postcard_wire.specs.declared.error.Error.TheVariants.{DeserializeUnexpectedEnd}
use Rattle.postcard_wire.specs.declared.error.Error.TheVariants.{DeserializeBadVarint}
use Rattle.postcard_wire.specs.declared.error.Error.TheVariants.{DeserializeBadBool}
use Rattle.postcard_wire.specs.declared.error.Error.TheVariants.{DeserializeBadChar}
use Rattle.postcard_wire.specs.declared.error.Error.TheVariants.{DeserializeBadUtf8}
use Rattle.postcard_wire.specs.declared.error.Error.TheVariants.{DeserializeBadOption}
use Rattle.postcard_wire.specs.declared.error.Error.TheVariants.{DeserializeBadEncoding}
use Rattle.postcard_wire.specs.declared.error.Error.TheVariants.{DeserializeBadCrc}
use Rattle.postcard_wire.specs.declared.error.Error.TheVariants.{SerdeDeCustom, OutOfMemory}
use Rattle.postcard_wire.specs.Tree.{Tree}
use Rattle.postcard_wire.specs.Spelling.{Spells, SpellsAll}
use Rattle.postcard_shape.specs.Lists.{EachIs, AreRead}
use Rattle.postcard_shape.specs.Shape.{Shape}
use Rattle.postcard_de_flavors.specs.Source.{Left, CanTake, Takes}
use Rattle.postcard_de_flavors.specs.declared.flavor.Flavor.{Ghosts}

-- The errors that a reading call may return (behaviour of postcard 1.1.3): the bytes end, a node is
-- bad, or a type refuses what was read. `other` has what else the type answers, as `OutOfMemory` if it
-- allocates. The errors of a bad frame and of a bad checksum are never among them.
abbrev pub IsReadError : (Error → Type 0) → Error → Type 0
IsReadError other DeserializeUnexpectedEnd = ⊤
IsReadError other DeserializeBadVarint = ⊤
IsReadError other DeserializeBadBool = ⊤
IsReadError other DeserializeBadChar = ⊤
IsReadError other DeserializeBadUtf8 = ⊤
IsReadError other DeserializeBadOption = ⊤
IsReadError other SerdeDeCustom = ⊤
IsReadError other DeserializeBadEncoding = ⊥
IsReadError other DeserializeBadCrc = ⊥
IsReadError other e = other e

-- A thing is read for which `claim` holds, and its spelling was taken from the front. The value
-- itself doesn't occur, so two values with the same `claim` are treated alike.
pub record Gives {X S : Type 0} (spelled : X → List ℕ → Type 0) (reads claim : X → Type 0)
    (left : S → Left) (able : S → ℕ → Type 0) (old new : S) : Type 0 where
  pub thing : X
  pub front : List ℕ
  pub is_read : reads thing
  pub is_spelled : spelled thing front
  pub has : claim thing
  pub taken : Takes left able old front new

-- A reading call over a source that has `left s` left and is `able s n` to give n bytes, from its
-- state `old` to `new`.
-- If it succeeds, it returns the value of a front that spells a thing that it reads, and has taken
-- just that front.
-- If such a front can be taken, it succeeds with that thing's value and takes just that front. A type
-- that allocates may fail with `OutOfMemory`.
-- It leaves a state that takes may leave, and an error that it returns is one that a reading call
-- may return.
pub record ReadsFrom {X S V : Type 0} (spelled : X → List ℕ → Type 0) (reads : X → Type 0)
    (value : X → V → Type 0) (other : Error → Type 0) (left : S → Left)
    (able : S → ℕ → Type 0) (may_leave : S → S → Type 0) (old : S) (result : Result V Error)
    (new : S) : Type 0 where
  pub gives : IfOk result (λ v. Gives spelled reads (λ x. value x v) left able old new)
  pub accepts : (x : X) (p : List ℕ) → reads x → spelled x p → CanTake left able old p →
      MatchResult result (λ v. value x v × Takes left able old p new) (λ e. e ≡ OutOfMemory)
  pub leaves : may_leave old new
  pub named_error : IfErr result (IsReadError other)

-- A reading call over a source of a flavor with the ghosts F, from its state `old` to `new`: what
-- `ReadsFrom` says.
abbrev pub Reads : {S M O X V : Type 0} → Ghosts S M O → (X → List ℕ → Type 0) → (X → Type 0) →
    (X → V → Type 0) → (Error → Type 0) → S → Result V Error → S → Type 0
Reads F spelled reads value other old result new =
    ReadsFrom spelled reads value other F.left F.able F.may_leave old result new

-- A call that reads a value of that shape.
abbrev pub ReadsShape : {S M O V : Type 0} → Ghosts S M O → Shape V → S → Result V Error → S → Type 0
ReadsShape F shape old result new =
    Reads F Spells shape.reads shape.value shape.other old result new

-- A call that read some elements of a list, at least one and at most `most`, and appended them to
-- the list `old_items`, which is now `new_items`.
abbrev pub ReadsMore : {S M O V : Type 0} → Ghosts S M O → (Tree → Type 0) → (Tree → V → Type 0) →
    (Error → Type 0) → ℕ → List V → List V → S → S → Type 0
ReadsMore {V = V} F reads value other most old_items new_items old new = (vs : List V)
    × (new_items ≡ old_items ++ vs) × (0 < length vs) × (length vs ≤ most)
    × Reads F SpellsAll (AreRead (length vs) reads) (EachIs value) other old (Ok vs) new

-- What a call that writes leaves in a writer of C.
use Rattle.std.specs.Prelude.{◌≡◌, ◌≢◌, ℕ, ◌+◌, ◌<◌, ◌≤◌, ◌^◌, ◌-◌, min, List, ◌++◌, length, take}
use Rattle.std.specs.Prelude.{drop}
use Rattle.postcard_c.specs.declared.writer.Writer.{Writer}

-- The new buffer is the old one with the bytes xs written at a place of it.
abbrev pub WrittenAt : ℕ → List ℕ → List ℕ → List ℕ → Type 0
WrittenAt place xs old new = new ≡ take place old ++ xs ++ drop (place + length xs) old

-- The call, whose task was to append the bytes xs, turned the writer `old` into `new`. In any case
-- the bytes are counted. A writer that failed before is otherwise unchanged. One without room for all
-- of them fails with status 2, and its buffer and place are unchanged.
pub record Puts (xs : List ℕ) (old new : Writer) (result : ℕ) : Type 0 where
  pub same_buffer : new.buffer.ghost_name ≡ old.buffer.ghost_name
  pub returns_status : result ≡ new.status
  pub counts : new.needed ≡ min (old.needed + length xs) (2 ^ 64 - 1)
  pub failed_before : old.status ≢ 0 → (new.status ≡ old.status) × (new.used ≡ old.used)
      × (new.buffer.now ≡ old.buffer.now)
  pub written : old.status ≡ 0 → old.used + length xs ≤ length old.buffer.now
      → (new.status ≡ 0) × (new.used ≡ old.used + length xs)
      × WrittenAt old.used xs old.buffer.now new.buffer.now
  pub full : old.status ≡ 0 → length old.buffer.now < old.used + length xs
      → (new.status ≡ 2) × (new.used ≡ old.used) × (new.buffer.now ≡ old.buffer.now)

-- The call failed with a status, unless the writer failed before. Nothing was written or counted.
pub record Refuses (status : ℕ) (old new : Writer) (result : ℕ) : Type 0 where
  pub same_buffer : new.buffer ≡ old.buffer
  pub same_place : (new.used ≡ old.used) × (new.needed ≡ old.needed)
  pub returns_status : result ≡ new.status
  pub failed_before : old.status ≢ 0 → new.status ≡ old.status
  pub fails : old.status ≡ 0 → new.status ≡ status

-- The buffer begins with the bytes xs, and has its old bytes after them.
abbrev pub Fills : List ℕ → List ℕ → List ℕ → Type 0
Fills xs old new = new ≡ xs ++ drop (length xs) old

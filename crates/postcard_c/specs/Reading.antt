-- What a call that reads leaves in a reader of C.
use Rattle.std.specs.Prelude.{◌≡◌, ◌≢◌, ℕ, ◌+◌, ◌-◌, ◌<◌, ◌≤◌, ◌⊎◌, List, [], ◌∷◌, ◌++◌, length}
use Rattle.std.specs.Prelude.{take, drop, Bool, true, false, Result, Ok, Err, IfOk, IfErr}
use Rattle.std.specs.Borrow.{Bor}
use Rattle.postcard_wire.specs.Tree.{Tree}
use Rattle.postcard_wire.specs.Spelling.{Spells}
use Rattle.postcard_wire.specs.declared.error.Error.{Error}
use Rattle.postcard_wire.specs.declared.error.Error.TheVariants.{DeserializeUnexpectedEnd}
use Rattle.postcard_de.specs.Front.{ReadsFront}
use Rattle.postcard_wire.specs.Status.{number_of}
use Rattle.postcard_c.specs.declared.reader.Reader.{Reader}

-- The bytes of a reader that aren't read yet.
abbrev pub rest_of : Reader → List ℕ
rest_of r = drop r.at r.bytes.now

-- After a front of the bytes a number of bytes are wanted, and there are fewer.
pub record EndsEarly (wants : List ℕ → ℕ → Type 0) (bytes : List ℕ) : Type 0 where
  pub front : List ℕ
  pub rest : List ℕ
  pub joins : bytes ≡ front ++ rest
  pub count : ℕ
  pub wanted : wants front count
  pub lacks : length rest < count

-- A front of the bytes is refused with the error e.
pub record BeginsBad (bad : List ℕ → Error → Type 0) (bytes : List ℕ) (e : Error) : Type 0 where
  pub front : List ℕ
  pub rest : List ℕ
  pub joins : bytes ≡ front ++ rest
  pub why : bad front e

-- Why a node can't be read from the bytes: they end although more are wanted, or a front is refused.
abbrev pub IsRefused : (List ℕ → ℕ → Type 0) → (List ℕ → Error → Type 0) → List ℕ → Error → Type 0
IsRefused wants bad bytes e =
    ((e ≡ DeserializeUnexpectedEnd) × EndsEarly wants bytes) ⊎ BeginsBad bad bytes e

-- The call, whose task was to read a tree of the set `reads`, turned the reader `old` into `new`, and what its pointer points to from
-- `before` into `now`. It succeeds if and only if a front of the bytes spells such a tree. It fails with the number of an error: the bytes
-- end although more are wanted, as `wants` says, or a front of them is refused, as `bad` says. Nothing else is changed then. A reader that
-- failed before is unchanged.
pub record Gets {V : Type 0} (reads : Tree → Type 0) (value : Tree → V → Type 0)
    (wants : List ℕ → ℕ → Type 0) (bad : List ℕ → Error → Type 0) (old new : Reader)
    (before now : V) (result : ℕ) : Type 0 where
  pub same_bytes : new.bytes ≡ old.bytes
  pub returns_status : result ≡ new.status
  pub failed_before : old.status ≢ 0 → (new ≡ old) × (now ≡ before)
  pub is_read : result ≡ 0 → ReadsFront reads value (rest_of old) now (rest_of new)
  pub accepts : old.status ≡ 0 → (t : Tree) (front rest : List ℕ) → reads t → Spells t front
      → rest_of old ≡ front ++ rest → (result ≡ 0) × value t now × (rest_of new ≡ rest)
  pub unread : result ≢ 0 → (new.at ≡ old.at) × (now ≡ before)
  pub refused : old.status ≡ 0 → result ≢ 0
      → (e : Error) × (result ≡ number_of e) × IsRefused wants bad (rest_of old) e

-- What is left of a reader `old` after `read` was read from its bytes, which left `left` of them.
pub record Settles {V : Type 0} (old new : Reader) (read : Result V Error) (left : List ℕ)
    (before now : V) (result : ℕ) : Type 0 where
  pub same_bytes : new.bytes ≡ old.bytes
  pub returns_status : result ≡ new.status
  pub failed_before : old.status ≢ 0 → (new ≡ old) × (now ≡ before)
  pub is_read : old.status ≡ 0 → IfOk read
      (λ v. (result ≡ 0) × (now ≡ v) × (new.at ≡ length old.bytes.now - length left))
  pub refused : old.status ≡ 0 → IfErr read
      (λ e. (result ≡ number_of e) × (new.at ≡ old.at) × (now ≡ before))

-- The second result is that of reading the bytes of the text that is the first.
abbrev pub AreBytesOf : Result (Bor (List ℕ)) Error → Result (Bor (List ℕ)) Error → Type 0
AreBytesOf (Ok text) read = IfOk read (λ b. b.now ≡ text.now) × IfErr read (λ e. ⊥)
AreBytesOf (Err error) read = read ≡ Err error

-- The call took the next `size` bytes, which are now `now`, if there are as many, and otherwise
-- failed with status 4, and nothing else is changed. A reader that failed before is unchanged.
pub record GetsBytes (size : ℕ) (old new : Reader) (before now : List ℕ) (result : ℕ) : Type 0 where
  pub same_bytes : new.bytes ≡ old.bytes
  pub returns_status : result ≡ new.status
  pub failed_before : old.status ≢ 0 → (new ≡ old) × (now ≡ before)
  pub is_read : old.status ≡ 0 → size ≤ length (rest_of old)
      → (new.status ≡ 0) × (new.at ≡ old.at + size) × (now ≡ take size (rest_of old))
  pub short : old.status ≡ 0 → length (rest_of old) < size
      → (new.status ≡ 4) × (new.at ≡ old.at) × (now ≡ before)

-- The call read the next `size` bytes as a number, if there are as many, and otherwise failed with
-- status 4, and nothing else is changed. A reader that failed before is unchanged.
pub record GetsFixed (value : List ℕ → ℕ) (size : ℕ) (old new : Reader) (before now result : ℕ)
    : Type 0 where
  pub same_bytes : new.bytes ≡ old.bytes
  pub returns_status : result ≡ new.status
  pub failed_before : old.status ≢ 0 → (new ≡ old) × (now ≡ before)
  pub is_read : old.status ≡ 0 → size ≤ length (rest_of old)
      → (new.status ≡ 0) × (new.at ≡ old.at + size) × (now ≡ value (take size (rest_of old)))
  pub short : old.status ≡ 0 → length (rest_of old) < size
      → (new.status ≡ 4) × (new.at ≡ old.at) × (now ≡ before)

-- The call read the first byte of an option: 0 without a value, 1 before one. It fails with status 4
-- if no byte is left, and with status 9 at any other byte; nothing else is changed then. A reader that
-- failed before is unchanged.
pub record GetsOption (old new : Reader) (before now : Bool) (result : ℕ) : Type 0 where
  pub same_bytes : new.bytes ≡ old.bytes
  pub returns_status : result ≡ new.status
  pub failed_before : old.status ≢ 0 → (new ≡ old) × (now ≡ before)
  pub absent : old.status ≡ 0 → (rest : List ℕ) → rest_of old ≡ 0 ∷ rest
      → (new.status ≡ 0) × (now ≡ false) × (new.at ≡ old.at + 1)
  pub present : old.status ≡ 0 → (rest : List ℕ) → rest_of old ≡ 1 ∷ rest
      → (new.status ≡ 0) × (now ≡ true) × (new.at ≡ old.at + 1)
  pub ended : old.status ≡ 0 → rest_of old ≡ [] → new.status ≡ 4
  pub bad : old.status ≡ 0 → (b : ℕ) (rest : List ℕ) → rest_of old ≡ b ∷ rest → 1 < b
      → new.status ≡ 9
  pub unread : result ≢ 0 → (new.at ≡ old.at) × (now ≡ before)

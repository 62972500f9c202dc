-- What the reading loop does, where `own` says which answer a frame that has room may have.
use Rattle.std.specs.Prelude.{◌≡◌, ℕ, ◌-◌, ◌*◌, ◌<◌, ◌≤◌, List, [], ◌++◌, Option}
use Rattle.std.specs.Prelude.{length, take, drop}
use Rattle.std.specs.Io.KnownBytes.{Consumes}
use Rattle.postcard_accumulator.specs.State.{State}
use Rattle.postcard_accumulator.specs.Streams.{Answers}
use Rattle.postcard_accumulator.specs.declared.answers.Answer.{Answer}
use Rattle.postcard_accumulator.specs.declared.reading.ReadEnd.{ReadEnd}
use Rattle.postcard_accumulator.specs.declared.reading.ReadEnd.TheVariants.{End, Limit}
use Rattle.postcard_accumulator.specs.declared.reading.ReadEnd.TheVariants.{ReadFailed, OutOfMemory}

-- All of a piece was fed except for `left` bytes at its end, and the answers were appended.
pub record IsFedAll {T : Type 0} (n : ℕ) (own : List ℕ → Answer T → Type 0) (before : State)
    (piece : List ℕ) (old new : List (Answer T)) (after : State) (left : ℕ) : Type 0 where
  pub within : left ≤ length piece
  pub answers : List (Answer T)
  pub items : new ≡ old ++ answers
  pub is : Answers n own before (take (length piece - left) piece) answers after

-- The bytes of the chunk that were read and not fed.
abbrev pub unfed : List ℕ → ReadEnd → List ℕ
unfed chunk End = []
unfed chunk Limit = []
unfed chunk ReadFailed = []
unfed chunk (OutOfMemory from to) = drop from (take to chunk)

-- What is known of the number of bytes read, and of the chunk, at each end of the loop.
abbrev pub EndsWell : ℕ → ℕ → List ℕ → ReadEnd → Type 0
EndsWell reads given chunk End = Unit {0}
EndsWell reads given chunk Limit = reads ≤ given
EndsWell reads given chunk ReadFailed = Unit {0}
EndsWell reads given chunk (OutOfMemory from to) = (from < to) × (to ≤ length chunk)

-- The bytes `given` were read, which are the next ones of the reader if it knows its bytes. The answers added are those of all of them
-- except for the bytes that weren't fed.
pub record IsReading {T : Type 0} (n : ℕ) (own : List ℕ → Answer T → Type 0) (reads : ℕ)
    (known left : Option (List ℕ)) (chunk : List ℕ) (before after : State)
    (old new : List (Answer T)) (end : ReadEnd) : Type 0 where
  pub given : List ℕ
  pub reader : Consumes known left given
  pub fed : List ℕ
  pub all : given ≡ fed ++ unfed chunk end
  pub answers : List (Answer T)
  pub items : new ≡ old ++ answers
  pub is : Answers n own before fed answers after
  pub at_most : length given ≤ reads * length chunk
  pub ends : EndsWell reads (length given) chunk end

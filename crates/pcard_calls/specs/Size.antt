-- What `size` prints.
use Rattle.std.specs.Prelude.{ℕ, ⊤, ◌+◌, ◌/◌, ◌^◌, ◌≤◌, nat_eq, if◌then◌else◌, List, [], ◌∷◌, ◌++◌, length, codes, Option, Some, None}
use Rattle.std.specs.List.{flat_map}
use Rattle.std.specs.Fmt.{decimal}
use Rattle.std.specs.Io.KnownBytes.{Appends}
use Rattle.postcard_wire.specs.Tree.{Tree}
use Rattle.postcard_wire.specs.Spelling.{canonical}
use Rattle.postcard_cobs.specs.Groups.{made}
use Rattle.postcard_schema_text.specs.Grammar.{IsExpression}
use Rattle.postcard_schema.specs.Meaning.{type_of, reads}
use Rattle.postcard_schema.specs.Paths.{PlainStep, plain_text}
use Rattle.postcard_schema.specs.declared.schema.Schema.{Schema}
use Rattle.pcard_message.specs.Format.{TypeFails}
use Rattle.pcard_message.specs.declared.failure.Failure.{Failure}
use Rattle.pcard_message.specs.declared.failure.Failure.TheVariants.{Output}
use Rattle.postcard_schema_size.specs.Endless.{endless}
use Rattle.postcard_schema_size.specs.Least.{IsLeastSize}
use Rattle.postcard_schema_size.specs.Sizes.{limit}

-- The number of a least size: 2^64 if there is none, since each message has as many bytes or more then.
abbrev pub least_number : Option ℕ → ℕ
least_number (Some n) = n
least_number None = 2 ^ 64

-- A number, or two with `to` between them.
abbrev pub span_text : ℕ → ℕ → List ℕ
span_text least greatest = if nat_eq least greatest then decimal least else decimal least ++ (codes " to " ++ decimal greatest)

-- The least and the greatest number of bytes of a message, and those of its frame. A frame has two bytes more than its data, and one more
-- for each 254 bytes without a zero.
abbrev pub bounded_text : ℕ → ℕ → List ℕ
bounded_text least greatest =
    codes "bytes: " ++ (span_text least greatest ++ (codes ", as a frame " ++ span_text (least + 2) (greatest + greatest / 254 + 2)))

-- The first part that has no greatest number: its path, or the value, if the path is empty.
abbrev pub first_text : List PlainStep → List ℕ
first_text [] = codes ": the value"
first_text (s ∷ path) = codes ": " ++ plain_text (s ∷ path)

-- The paths, each after a comma and a blank.
abbrev pub others_text : List (List PlainStep) → List ℕ
others_text paths = flat_map (λ path. codes ", " ++ plain_text path) paths

-- The parts that have no greatest number, or, if there are none, what the greatest number exceeds.
abbrev pub parts_text : List (List PlainStep) → List ℕ
parts_text [] = codes " below 2^64"
parts_text (path ∷ paths) = first_text path ++ others_text paths

-- The least number of bytes, and the parts that have no greatest number.
abbrev pub endless_text : ℕ → List (List PlainStep) → List ℕ
endless_text least paths = codes "bytes: at least " ++ (decimal least ++ (codes ", no greatest number" ++ parts_text paths))

-- The text of the sizes: with a greatest number or without one.
abbrev pub size_text : ℕ → Option ℕ → List (List PlainStep) → List ℕ
size_text least (Some greatest) paths = bounded_text least greatest
size_text least None paths = endless_text least paths

-- The frame of each message of the set has at least `least` and at most `greatest` bytes, its zero included.
abbrev pub FramesWithin : ℕ → ℕ → (Tree → Type 0) → Type 0
FramesWithin least greatest has = (t : Tree) → has t → (least ≤ length (made (canonical t))) × (length (made (canonical t)) ≤ greatest)

-- The same of the numbers that are printed of frames, if there is a greatest number.
abbrev pub FramesAreWithin : ℕ → Option ℕ → (Tree → Type 0) → Type 0
FramesAreWithin least (Some greatest) has = FramesWithin (least + 2) (greatest + greatest / 254 + 2) has
FramesAreWithin least None has = Unit {0}

-- The least and the greatest number of bytes of the messages of the expression are printed, or the parts that have none.
pub record PrintsSize (expression : List ℕ) (old new : Option (List ℕ)) : Type 0 where
  pub schema : Schema
  pub spelled : IsExpression schema expression
  pub least : Option ℕ
  pub is_least : IsLeastSize least (reads (type_of schema))
  pub frames : FramesAreWithin (least_number least) (limit (type_of schema)).greatest (reads (type_of schema))
  pub printed : Appends old new (size_text (least_number least) (limit (type_of schema)).greatest (endless schema) ++ 10 ∷ [])

-- When each failure of `size` comes.
abbrev pub SizeFails : List ℕ → Failure → Type 0
SizeFails expression Output = ⊤
SizeFails expression failure = TypeFails expression failure

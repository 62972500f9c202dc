-- What a walk over bytes does: it adds lines for them.
use Rattle.std.specs.Prelude.{◌≡◌, ◌≢◌, ℕ, List, [], ◌++◌, Result, MatchResult}
use Rattle.std.specs.Borrow.{Bor}
use Rattle.postcard_wire.specs.declared.error.Error.{Error}
use Rattle.postcard_wire.specs.declared.error.Error.TheVariants.{OutOfMemory}
use Rattle.postcard_shape.specs.Shape.{memory}
use Rattle.postcard_de.specs.Reads.{IsReadError}
use Rattle.postcard_schema.specs.declared.schema.Schema.{Schema}
use Rattle.postcard_explain.specs.declared.line.Line.{Line}
use Rattle.postcard_explain.specs.Explained.{Explains, bytes_of}
use Rattle.postcard_explain.specs.Parts.{PlainLabel}
use Rattle.postcard_explain.specs.RefusedLines.{Refuses}

-- Lines of this kind were added for a prefix of the bytes, and `rest` is the bytes after it.
abbrev pub Adds : (List Line → Type 0) → List Line → List ℕ → List Line → List ℕ → Type 0
Adds kind old bytes new rest = (more : List Line) × kind more × (new ≡ old ++ more) × (bytes ≡ bytes_of more ++ rest)

-- A walk added lines of this kind for all of the bytes, and failed with this error, or it ran out of memory.
abbrev pub Stops : (List Line → Type 0) → List Line → List ℕ → List Line → Error → Type 0
Stops kind old bytes new e = IsReadError memory e × (e ≢ OutOfMemory → Adds kind old bytes new [])

-- What a walk over the bytes did. It added lines of the first kind for a prefix of the bytes, and returned the remaining bytes. Or it
-- stopped, with lines of the second kind.
abbrev pub Walks : (List Line → Type 0) → (List Line → Type 0) → List Line → List ℕ → List Line → Result (Bor (List ℕ)) Error → Type 0
Walks kind stopped old bytes new result = MatchResult result (λ rest. Adds kind old bytes new rest.now) (Stops stopped old bytes new)

-- The same of the lines of a value of a schema at this depth and with this label.
abbrev pub WalksValue : ℕ → ℕ → PlainLabel → Schema → List Line → List ℕ → List Line → Result (Bor (List ℕ)) Error → Type 0
WalksValue most depth label schema = Walks (Explains most depth label schema) (Refuses most depth label schema)

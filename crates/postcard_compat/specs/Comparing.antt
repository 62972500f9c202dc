-- What the comparison of two types says.
use Rattle.std.specs.Prelude.{◌≡◌, ℕ, ◌<◌, ◌⊎◌, Bool, true, false, Option, IfSome, MatchOption, List, ◌++◌, length, get_or}
use Rattle.postcard_wire.specs.Spelling.{Spells}
use Rattle.postcard_wire.specs.Tree.{Tree}
use Rattle.postcard_schema.specs.Meaning.{MessageType, reads}
use Rattle.postcard_value.specs.Tree.{tree}
use Rattle.postcard_value.specs.declared.value.Value.{Value}
use Rattle.postcard_compat.specs.Examples.{IsExample}
use Rattle.postcard_compat.specs.Said.{Word, said}
use Rattle.postcard_compat.specs.Serving.{Serves, ServesFront}
use Rattle.postcard_compat.specs.declared.change.Change.{Change}
use Rattle.postcard_compat.specs.declared.change.Change.TheVariants as changes
use Rattle.postcard_compat.specs.declared.change.Difference.{Difference}
use Rattle.postcard_compat.specs.declared.comparison.Comparison.{Comparison}
use Rattle.postcard_compat.specs.declared.comparison.Outcome.{Outcome}
use Rattle.postcard_compat.specs.declared.comparison.Outcome.TheVariants as outcomes
use Rattle.postcard_compat.specs.declared.comparison.Relation.{Relation}
use Rattle.postcard_compat.specs.declared.comparison.Relation.TheVariants as relations
use Rattle.postcard_compat.specs.declared.comparison.Verdict.{Verdict}
use Rattle.postcard_compat.specs.declared.comparison.Verdict.TheVariants as verdicts
use Rattle.postcard_compat.specs.declared.example.Example.{Example}
use Rattle.postcard_compat.specs.declared.example.Reading.{Reading}
use Rattle.postcard_compat.specs.declared.example.Reading.TheVariants.{Refused, Read}

-- A value of the new type that has all bytes of the message says something else than the value of the old type.
abbrev pub IsOther : MessageType → MessageType → Value → Reading → Type 0
IsOther old new value (Refused error offset path) = ⊥
IsOther old new value (Read other left) = (left ≡ 0) × (said new (tree other) ≡ said old (tree value) → ⊥)

-- The new type reads all bytes of the message as a value that says something else.
abbrev pub ReadsAsOther : MessageType → MessageType → Example → Type 0
ReadsAsOther old new e = IsOther old new e.value e.reading

-- No bytes are left.
abbrev pub IsWhole : Reading → Type 0
IsWhole (Refused error offset path) = ⊥
IsWhole (Read value left) = left ≡ 0

-- The reading is a refusal.
abbrev pub IsRefused : Reading → Type 0
IsRefused (Refused error offset path) = Unit {0}
IsRefused (Read value left) = ⊥

-- The meaning of each outcome: what the example shows of the two types.
abbrev pub Shows : MessageType → MessageType → Example → Outcome → Type 0
Shows old new e outcomes.Other = ReadsAsOther old new e
Shows old new e outcomes.Whole = IsWhole e.reading
Shows old new e outcomes.Refused = IsRefused e.reading
Shows old new e outcomes.Left = Unit {0}

-- Let the new type read a message of the old one with bytes after it. What it reads has all bytes of the message, and says what the message
-- says. It may say more, from the bytes after it.
abbrev pub NeverMisreads : MessageType → MessageType → Type 0
NeverMisreads new old =
    (t s : Tree) (p q x y : List ℕ) → reads old t → reads new s → Spells t p → Spells s q → p ++ x ≡ q ++ y
    → (z : List ℕ) × (more : List Word) × (q ≡ p ++ z) × (said new s ≡ said old t ++ more)

-- What is known of a new type and an old one.
abbrev pub Relates : MessageType → MessageType → Relation → Type 0
Relates new old relations.Same = Serves new old
Relates new old relations.Front = ServesFront new old
Relates new old relations.Refuses = NeverMisreads new old
Relates new old relations.Unknown = Unit {0}

-- The change is a name that stands at another place.
abbrev pub is_move : Change → Bool
is_move (changes.Moved path) = true
is_move (changes.VariantMoved variant name) = true
is_move change = false

-- One of the differences is a moved name.
abbrev pub HasMove : List Difference → Type 0
HasMove ds = (i : ℕ) × (d : Difference) × (i < length ds) × (d ≡ get_or ds i d) × (is_move d.what ≡ true)

-- The new type reads the example to its end. It reads a value that says something else, or a name stands at another place.
abbrev pub IsMisread : MessageType → MessageType → List Difference → Example → Type 0
IsMisread old new ds e = ReadsAsOther old new e ⊎ (IsWhole e.reading × HasMove ds)

-- What a verdict means.
abbrev pub Means : MessageType → MessageType → List Difference → Option Example → Verdict → Type 0
Means old new ds example verdicts.Same = Serves new old
Means old new ds example verdicts.Front = ServesFront new old
Means old new ds example verdicts.Refuses = NeverMisreads new old × MatchOption example ⊥ (λ e. IsRefused e.reading)
Means old new ds example verdicts.Misread = MatchOption example ⊥ (IsMisread old new ds)
Means old new ds example verdicts.Differs = Unit {0}

-- What a comparison claims of the two types.
pub record IsCompared (old new : MessageType) (c : Comparison) : Type 0 where
  -- The new type reads each message of the old one as the same.
  pub same : c.verdict ≡ verdicts.Same → Serves new old
  -- Each message of the old type begins with one of the new type that says the same.
  pub front : c.verdict ≡ verdicts.Front → ServesFront new old
  -- The new type misreads no message of the old one, and refuses the example.
  pub refuses : c.verdict ≡ verdicts.Refuses → NeverMisreads new old × MatchOption c.example ⊥ (λ e. IsRefused e.reading)
  -- The new type reads the example to its end, but not as the same, or a name stands at another place.
  pub misread : c.verdict ≡ verdicts.Misread → MatchOption c.example ⊥ (IsMisread old new c.differences.items)
  -- The example is a message of the old type, and what the new one makes of it.
  pub example : IfSome c.example (IsExample old new)

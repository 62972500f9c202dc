-- What a call does that reads a value and appends it to a list.
use Rattle.std.specs.Prelude.{◌≡◌, List, [], ◌∷◌, ◌++◌, Result, Ok, MatchResult}
use Rattle.postcard_wire.specs.declared.error.Error.{Error}
use Rattle.postcard_wire.specs.Tree.{Tree}
use Rattle.postcard_wire.specs.Spelling.{Spells}
use Rattle.postcard_shape.specs.Shape.{memory}
use Rattle.postcard_de_flavors.specs.declared.flavor.Flavor.{Ghosts}
use Rattle.postcard_de.specs.Reads.{Reads}
use Rattle.postcard_de_nodes.specs.ReadLemmas.{refusal}
use Rattle.postcard_value.specs.Tree.{IsTree}
use Rattle.postcard_value.specs.declared.value.Value.{Value}

-- A call over a source of a flavor with the ghosts F, from its state `old` to `new`. It reads a value of one of the trees, and appends it
-- to the values `items`, which are then `more`, or fails as reading does.
abbrev pub ReadsOnto : {S M O : Type 0} → Ghosts S M O → (Tree → Type 0) → List Value → S → Result (Unit {0}) Error → List Value → S → Type 0
ReadsOnto F reads items old result more new =
    MatchResult result (λ done. (v : Value) × (more ≡ items ++ v ∷ []) × Reads F Spells reads IsTree memory old (Ok v) new)
    (λ e. Reads F Spells reads IsTree memory old (refusal Value e) new)

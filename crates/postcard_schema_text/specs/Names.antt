-- Which names the fields of a struct or the variants of an enum have.
use Rattle.std.specs.Prelude.{◌≡◌, ℕ, List, [], ◌∷◌, string_bytes}
use Rattle.std.specs.List.{All, Contains}
use Rattle.postcard_schema.specs.declared.schema.Named.{Named}
use Rattle.postcard_schema.specs.declared.schema.Schema.{Schema}

-- The field or variant has this name and this type.
abbrev pub IsCalled : List ℕ → Schema → Named Schema → Type 0
IsCalled name s n = (string_bytes n.name ≡ name) × (n.content ≡ s)

-- The field or variant has another name.
abbrev pub HasOther : List ℕ → Named Schema → Type 0
HasOther name n = string_bytes n.name ≡ name → ⊥

-- None of the fields or variants has the name.
abbrev pub IsNewTo : List (Named Schema) → List ℕ → Type 0
IsNewTo ns name = All (HasOther name) ns

-- One of the fields or variants has the name.
abbrev pub IsTakenIn : List (Named Schema) → List ℕ → Type 0
IsTakenIn ns name = (n : Named Schema) × Contains ns n × (string_bytes n.name ≡ name)

-- No two of the fields or variants have the same name.
abbrev pub NamesDiffer : List (Named Schema) → Type 0
NamesDiffer [] = Unit {0}
NamesDiffer (n ∷ ns) = IsNewTo ns (string_bytes n.name) × NamesDiffer ns

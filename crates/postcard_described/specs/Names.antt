-- The names of fields and variants.
use Rattle.std.specs.Prelude.{◌≡◌, ℕ, List, [], ◌∷◌, ◌++◌, map, Vec, string_bytes}
use Rattle.std.proofs.Common.{refl, ap}
use Rattle.std.specs.Borrow.{Bor}
use Rattle.std.specs.declared.alloc.Global.{Global}
use Rattle.postcard_schema.specs.declared.schema.Named.{Named}
use Rattle.postcard_schema.specs.declared.schema.Schema.{Schema}
use Rattle.postcard_schema.specs.declared.schema.Schema.TheVariants.{Enum, Struct}

-- The names in a list, in order.
abbrev pub names_of : {A : Type 0} → List (Named A) → List (List ℕ)
names_of [] = []
names_of (n ∷ ns) = string_bytes n.name ∷ names_of ns

-- The names of joined lists are their names joined.
pub names_append : {A : Type 0} (ns ms : List (Named A)) → names_of (ns ++ ms) ≡ names_of ns ++ names_of ms
names_append [] ms = refl
names_append (n ∷ ns) ms = ap (λ xs. string_bytes n.name ∷ xs) (names_append ns ms)

-- The bytes of a `&str`.
abbrev pub text_of : Bor (List ℕ) → List ℕ
text_of b = b.now

-- The schema is that of a struct whose fields have these names, in order.
abbrev pub HasFields : List (Bor (List ℕ)) → Schema → Type 0
HasFields names schema = (v : Vec (Named Schema) Global) × (schema ≡ Struct v) × (names_of v.items ≡ map text_of names)

-- The first of a pair of texts.
abbrev pub first_text : {A : Type 0} → Bor (List ℕ) × A → List ℕ
first_text p = p.0.now

-- The schema is that of an enum whose variants have these names, in order.
abbrev pub HasVariants : {A : Type 0} → List (Bor (List ℕ) × A) → Schema → Type 0
HasVariants names schema = (v : Vec (Named Schema) Global) × (schema ≡ Enum v) × (names_of v.items ≡ map first_text names)

-- The schemas of types with types in `<` and `>`, by their kind.
use Rattle.std.proofs.Common.{◌≡◌, Bool, true, false, if◌then◌else◌, ◌⊎◌, Box, refl, inl, inr}
use Rattle.std.specs.declared.alloc.Global.{Global}
use Rattle.postcard_schema.specs.declared.schema.Schema.{Schema}
use Rattle.postcard_schema.specs.declared.schema.Schema.TheVariants.{Option, Seq}
use Rattle.postcard_schema.specs.Meaning.{MessageType, entry_of, has_bytes, type_of}
use Rattle.postcard_schema_text.specs.declared.angled.Holder.{Holder}
use Rattle.postcard_schema_text.specs.declared.angled.Holder.TheVariants as holders
use Rattle.postcard_schema_text.specs.Angled.{MayHold, IsHolderOf}

-- A list whose element type has bytes is the schema of `Vec<T>`.
pub list_made : (h : Holder) (x : Schema) (b : Box Schema Global) → h ≡ holders.List → has_bytes (type_of x) ≡ true → b.value ≡ x
    → MayHold h (type_of x) × IsHolderOf h x (Seq b)
list_made h x b is full held = rw is (full, (b, refl, held))

-- An option is the schema of `Option<T>`.
pub option_made : (h : Holder) (x : Schema) (b : Box Schema Global) → h ≡ holders.Option → b.value ≡ x → MayHold h (type_of x) × IsHolderOf h x (Option b)
option_made h x b is held = rw is (tt, (b, refl, held))

-- The entries of a map have bytes if its key or its value has.
pub entry_full : (t u : MessageType) → (has_bytes t ≡ true) ⊎ (has_bytes u ≡ true) → has_bytes (entry_of t u) ≡ true
entry_full t u (inl full) = rw full refl
entry_full t u (inr full) = by (has_bytes t)
  where
    by : (x : Bool) → (if x then true else (if has_bytes u then true else false)) ≡ true
    by true = refl
    by false = rw full refl

-- Errors of objects with other members than the fields.
use Rattle.std.proofs.Common.{◌≡◌, ℕ, List, [], ◌∷◌, Option, Some, None, true, false, is_some, option_map, inl, inr, sym, ap, ◌∙◌, subst}
use Rattle.postcard_schema.specs.Paths.{at_name, plain_path}
use Rattle.postcard_schema.specs.declared.path.Path.{Path}
use Rattle.postcard_schema.specs.declared.schema.Named.{Named}
use Rattle.postcard_schema.specs.declared.schema.Schema.{Schema}
use Rattle.postcard_schema_text.specs.Names.{IsTakenIn}
use Rattle.serde_json.specs.Data.{Data}
use Rattle.serde_json.specs.Find.{get}
use Rattle.postcard_value_json_read.specs.declared.error.Expected.{Expected}
use Rattle.postcard_value_json_read.specs.declared.error.Expected.TheVariants.{Present}
use Rattle.postcard_value_json_read.specs.declared.error.JsonError.{JsonError}
use Rattle.postcard_value_json_read.specs.declared.error.JsonError.TheVariants.{NotAValue, OutOfMemory}
use Rattle.postcard_value_json_read.specs.Places.{IsAt, IsLengthError, IsWithin}

module _ (ns : List (Named Schema)) (d : Data) where
  named : (name : List ℕ) (what : Expected) (path : Path) (r : JsonError) → (plain_path path ≡ []) × (what ≡ Present) → IsAt (at_name name ∷ plain_path path) what r
      → IsTakenIn ns name → ((e : Data) → get name d ≡ Some e → ⊥) → IsLengthError ns d r
  named name what path OutOfMemory at here taken no_member = absurd here
  named name what path (NotAValue own w) at here taken no_member =
      let steps : plain_path own ≡ at_name name ∷ [] = here.0 ∙ ap (λ p. at_name name ∷ p) at.0 in
      subst (λ x. IsLengthError ns d (NotAValue own x)) (sym (here.1 ∙ at.1)) (name, steps, taken, no_member)

  pub missing_error : (name : List ℕ) (e r : JsonError) → IsAt [] Present e → IsWithin (at_name name) e r → IsTakenIn ns name → ((x : Data) → get name d ≡ Some x → ⊥) → IsLengthError ns d r
  missing_error name OutOfMemory r at within taken no_member = absurd at
  missing_error name (NotAValue path what) r at (inl is) taken no_member = subst (IsLengthError ns d) (sym is) tt
  missing_error name (NotAValue path what) r at (inr here) taken no_member = named name what path r at here taken no_member

-- If a member is found, the JSON has it.
pub some_found : {A : Type 0} (f : A → Data) (r : Option A) (o : Option Data) → option_map f r ≡ o → is_some r ≡ true → (e : Data) × (o ≡ Some e)
some_found f None o found some = absurd (cc some)
some_found f (Some x) o found some = (f x, sym found)

pub none_found : {A : Type 0} (f : A → Data) (r : Option A) (o : Option Data) → option_map f r ≡ o → is_some r ≡ false → (e : Data) → o ≡ Some e → ⊥
none_found f None o found none e is = cc (found ∙ is)
none_found f (Some x) o found none e is = cc none

-- Types whose values never refuse themselves when they are written: those whose parts never do.
use Rattle.std.specs.Prelude.{◌⊎◌, List, Any, Option, None, Some, Result, Ok, Err, IsSomeAnd}
use Rattle.std.proofs.Common.{inl, inr}
use Rattle.postcard_shape.specs.Options.{result_refusal}
use Rattle.postcard_shape.specs.Cases.{case_of}
use Rattle.postcard_shape.specs.declared.cases.Case.{Case}
use Rattle.postcard_shape.specs.declared.cases.Case.TheVariants.{This, Next}
use Rattle.postcard_wire.specs.declared.error.Error.{Error}
use Rattle.postcard_shape.specs.Shape.{never, IsEmpty}

-- No value refuses itself, by any error.
abbrev pub Never : {V : Type 0} → (V → Error → Type 0) → Type 0
Never {V} refusal = (v : V) → IsEmpty (refusal v)

-- A value whose type names no errors never refuses itself.
pub never_any : {V : Type 0} → Never (λ (v : V). never)
never_any v = record { has_none = λ e r. r }

-- An option never refuses itself if the value in it never does.
pub option_never : {V : Type 0} (refusal : V → Error → Type 0) → Never refusal → Never (λ (v : Option V) e. IsSomeAnd v (λ x. refusal x e))
option_never refusal h None = record { has_none = λ e r. absurd r }
option_never refusal h (Some v) = record { has_none = (h v).has_none }

-- A result never refuses itself if neither of its values does.
pub result_never : {V W : Type 0} (good : V → Error → Type 0) (bad : W → Error → Type 0) → Never good → Never bad → Never (λ (v : Result V W). result_refusal good bad v)
result_never good bad h k (Ok v) = h v
result_never good bad h k (Err v) = k v

-- A list never refuses itself if its elements never do.
pub any_never : {V : Type 0} (refusal : V → Error → Type 0) → Never refusal → Never (λ (v : List V) e. Any (λ x. refusal x e) v)
any_never refusal h v = record { has_none = λ e (i, x, below, is, r). (h x).has_none e r }

-- A row never refuses itself if neither its first part nor those after it do.
pub then_never : {f g : Error → Type 0} → IsEmpty f → IsEmpty g → IsEmpty (λ e. f e ⊎ g e)
then_never {f} {g} h k = record { has_none = λ e r. each e r }
  where
    each : (e : Error) → f e ⊎ g e → ⊥
    each e (inl r) = h.has_none e r
    each e (inr r) = k.has_none e r

-- An enum never refuses itself if the contents of its variants never do.
pub case_never : {A R : Type 0} (first : A → Error → Type 0) (others : R → Error → Type 0) → Never first → Never others → Never (λ (v : Case A R). case_of first others v)
case_never first others h k (This v) = h v
case_never first others h k (Next v) = k v

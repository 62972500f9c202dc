-- What a call promises that takes bytes from a source of this crate. It is not in `Source`, which the trait cites,
-- since it names the trait.
use Rattle.std.specs.Prelude.{◌≡◌, ℕ, ◌≤◌, ◌↔◌, List, length, Result, IfOk, IsOk, IsOkUnless, OnErr}
use Rattle.postcard_wire.specs.declared.error.Error.{Error}
use Rattle.postcard_wire.specs.declared.error.Error.TheVariants.{DeserializeUnexpectedEnd}
use Rattle.postcard_de_flavors.specs.Source.{Takes}
use Rattle.postcard_de_flavors.specs.declared.flavor.Flavor.{Ghosts}

-- A call takes n bytes from a source with the ghosts F in state s: it returned r, in which those taken are `bytes`,
-- and left t. It succeeds if the source is able to give n bytes, and fails only with `DeserializeUnexpectedEnd`.
pub record TakesIfAble {S M O V : Type 0} (F : Ghosts S M O) (bytes : V → List ℕ) (n : ℕ) (s : S) (r : Result V Error) (t : S) : Type 0 where
  pub gives : IfOk r (λ v. Takes F.left F.able s (bytes v) t)
  pub accepts : F.able s n → IsOk r
  pub leaves : F.may_leave s t
  pub refuses_by_unexpected_end : IsOkUnless r DeserializeUnexpectedEnd

-- Such a call over a list, which succeeds if and only if n bytes are left. It fails only with
-- `DeserializeUnexpectedEnd`, and changes nothing then.
pub record TakesIfEnough {M O V : Type 0} (F : Ghosts (List ℕ) M O) (bytes : V → List ℕ) (n : ℕ) (s : List ℕ) (r : Result V Error) (t : List ℕ) : Type 0 where
  pub gives : IfOk r (λ v. Takes F.left F.able s (bytes v) t)
  pub leaves : F.may_leave s t
  pub refuses_by_unexpected_end : IsOkUnless r DeserializeUnexpectedEnd
  pub succeeds_iff_enough : IsOk r ↔ (n ≤ length s)
  pub unchanged : OnErr r (t ≡ s)

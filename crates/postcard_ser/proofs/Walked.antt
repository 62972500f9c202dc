-- The elements of an iterator are written one by one: those before the current one are written, and then the current one.
use Rattle.std.proofs.Common.{◌≡◌, List, [], ◌∷◌, ◌++◌, Ok, Err, refl, sym, subst}
use Rattle.std.specs.Prelude.{map, Any}
use Rattle.postcard_wire.specs.declared.error.Error.{Error}
use Rattle.postcard_wire.specs.Spelling.{canonical, canonical_all}
use Rattle.postcard_wire.specs.Tree.{trees}
use Rattle.postcard_shape.specs.Shape.{Shape}
use Rattle.postcard_ser_flavors.specs.declared.flavor.Flavor.{Ghosts}
use Rattle.postcard_ser.specs.Writing.{Wrote, never}
use Rattle.postcard_ser.proofs.Elements.{elements_append}
use Rattle.postcard_ser.proofs.Entries.{any_mid}
use Rattle.postcard_ser.proofs.PartByPart.{wrote_then, wrote_stop, wrote_ok, wrote_last}

module _ {S O V : Type 0} {F : Ghosts S O} (s : Shape V) (done : List V) (k : V) {start mid new : S} where
  -- One more element is written.
  pub one_more : {Q : Error → Type 0} {T : Type 0} → Wrote F start (canonical_all (trees (map s.tree done))) never ⊥ (Ok tt) mid → Wrote F mid (canonical (s.tree k)) Q T (Ok tt) new →
      Wrote F start (canonical_all (trees (map s.tree (done ++ k ∷ [])))) never ⊥ (Ok tt) new
  one_more w v =
      subst (λ z. Wrote F start z never ⊥ (Ok tt) new) (sym (elements_append s.tree done (k ∷ [])))
      (wrote_then _ _ w (wrote_last (wrote_ok v)) (λ e q. q) (λ t. t))

  -- An element is refused, and so are all.
  pub one_refused : {e : Error} (rest all : List V) → done ++ (k ∷ rest) ≡ all → Wrote F start (canonical_all (trees (map s.tree done))) never ⊥ (Ok tt) mid →
      Wrote F mid (canonical (s.tree k)) (s.refusal k) s.text (Err e) new → Wrote F start (canonical_all (trees (map s.tree all))) (λ e. Any (λ x. s.refusal x e) all) s.text (Err e) new
  one_refused {e} rest all is w v =
      subst (λ z. Wrote F start (canonical_all (trees (map s.tree z))) (λ e. Any (λ x. s.refusal x e) z) s.text (Err e) new) is
      (subst (λ z. Wrote F start z (λ e. Any (λ x. s.refusal x e) (done ++ (k ∷ rest))) s.text (Err e) new) (sym (elements_append s.tree done (k ∷ rest)))
      (wrote_then _ _ w (wrote_stop _ _ v (λ e. any_mid {P = λ x. s.refusal x e} done k rest _ refl) (λ t. t)) (λ e q. q) (λ t. t)))

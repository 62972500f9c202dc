-- Lemmas on a list that is written many elements at a time: the elements written so far, and those that are left.
use Rattle.std.proofs.Common.{◌≡◌, ℕ, ◌<◌, ◌≤◌, Result, Ok, Err, OnOk, List, [], ◌++◌, length, take, drop, refl, sym, ap, subst, ◌∙◌, append_assoc, arith}
use Rattle.std.proofs.lemmas.List.{take-append-drop, length-drop}
use Rattle.std.specs.Prelude.{Any, map}
use Rattle.postcard_wire.specs.Spelling.{canonical_all}
use Rattle.postcard_wire.specs.Tree.{trees}
use Rattle.postcard_wire.specs.declared.error.Error.{Error}
use Rattle.postcard_ser_flavors.specs.declared.flavor.Flavor.{Ghosts}
use Rattle.postcard_shape.specs.First.{AreBytesOf, IsBlock}
use Rattle.postcard_shape.specs.Lists.{AllFit}
use Rattle.postcard_shape.specs.Shape.{Shape}
use Rattle.postcard_shape.proofs.Fitting.{all_append}
use Rattle.postcard_ser.specs.Writing.{Wrote, never}
use Rattle.postcard_ser.proofs.Elements.{elements_append, any_left, any_right}
use Rattle.postcard_ser.proofs.PartByPart.{wrote_none, wrote_then, wrote_stop, wrote_as, wrote_ok}

module _ {S O V : Type 0} (F : Ghosts S O) (s : Shape V) where
  -- The encodings of the values xs.
  abbrev pub encoded : List V → List ℕ
  encoded xs = canonical_all (trees (map s.tree xs))

  -- The elements before `rest` are written, and fit.
  pub record Written (items rest : List V) (old new : S) : Type 0 where
    pub done : List V
    pub cut : items ≡ done ++ rest
    pub wrote : Wrote F old (encoded done) never ⊥ (Ok tt) new
    pub fits : AllFit s.fits done

-- A block takes elements away.
pub block_shortens : {V : Type 0} {s : Shape V} {rest others : List V} {bytes : List ℕ} {n : ℕ} → IsBlock s rest bytes n → others ≡ drop n rest → length others < length rest
block_shortens {rest} {n} b o = rw o (omega (arith, length-drop n rest, b.some, b.within))

-- Elements that are written one by one are taken away, too.
pub some_shorten : {V : Type 0} (rest others : List V) (n : ℕ) → 0 < n → n ≤ length rest → others ≡ drop n rest → length others < length rest
some_shorten rest others n some within o = rw o (omega (arith, length-drop n rest, some, within))

module _ {S O V : Type 0} {F : Ghosts S O} {s : Shape V} where
  -- At first nothing is written.
  pub written_none : (items : List V) (old : S) → Written F s items items old old
  written_none items old = record { done = []; cut = refl; wrote = wrote_none old; fits = tt }

  -- A block more is written.
  pub written_more : {items rest others : List V} {bytes : List ℕ} {n : ℕ} {old mid new : S} → Written F s items rest old mid
      → IsBlock s rest bytes n → others ≡ drop n rest → Wrote F mid bytes never ⊥ (Ok tt) new → Written F s items others old new
  written_more {rest} {n} {old} {new} w b o r = let front = take n rest in record {
    done = w.done ++ front;
    cut = w.cut ∙ ap (λ z. w.done ++ z) (sym (take-append-drop n rest) ∙ ap (λ z. front ++ z) (sym o)) ∙ sym (append_assoc w.done front _);
    wrote = subst (λ z. Wrote F old z never ⊥ (Ok tt) new)
        (ap (λ z. encoded F s w.done ++ z) b.gives ∙ sym (elements_append s.tree w.done front))
        (wrote_then _ _ w.wrote r (λ e q. q) (λ t. t));
    fits = all_append s.fits w.done front w.fits b.fits;
  }

  -- The encodings of all elements are those already written, those of a block, and those of the remaining elements.
  whole : {items rest : List V} {bytes : List ℕ} {n : ℕ} {old mid : S} (w : Written F s items rest old mid)
      (b : IsBlock s rest bytes n) → encoded F s w.done ++ (bytes ++ encoded F s (drop n rest)) ≡ encoded F s items
  whole {rest} {n} w b =
      ap (λ z. encoded F s w.done ++ (z ++ encoded F s (drop n rest))) b.gives
      ∙ ap (λ z. encoded F s w.done ++ z) (sym (elements_append s.tree (take n rest) (drop n rest)) ∙ ap (encoded F s) (take-append-drop n rest))
      ∙ sym (elements_append s.tree w.done rest) ∙ ap (encoded F s) (sym w.cut)

  -- A block is refused, and so is the list.
  pub written_stop : {items rest : List V} {bytes : List ℕ} {n : ℕ} {old mid new : S} {e : Error} (w : Written F s items rest old mid)
      → IsBlock s rest bytes n → Wrote F mid bytes never ⊥ (Err e) new
      → Wrote F old (encoded F s items) (λ e. Any (λ x. s.refusal x e) items) s.text (Err e) new
  written_stop {items} {old} {new} {e} w b r =
      subst (λ z. Wrote F old z (λ e. Any (λ x. s.refusal x e) items) s.text (Err e) new) (whole w b)
      (wrote_then _ _ w.wrote (wrote_stop _ _ r (λ e q. absurd q) (λ t. absurd t)) (λ e q. q) (λ t. t))

  -- The elements that are left are written or refused, and so is the list.
  pub written_end : {items rest : List V} {old mid new : S} {r : Result (Unit {0}) Error} (w : Written F s items rest old mid)
      → Wrote F mid (encoded F s rest) (λ e. Any (λ x. s.refusal x e) rest) s.text r new
      → Wrote F old (encoded F s items) (λ e. Any (λ x. s.refusal x e) items) s.text r new
  written_end {items} {rest} {old} {new} {r} w v =
      subst (λ z. Wrote F old (encoded F s z) (λ e. Any (λ x. s.refusal x e) z) s.text r new) (sym w.cut)
      (subst (λ z. Wrote F old z (λ e. Any (λ x. s.refusal x e) (w.done ++ rest)) s.text r new) (sym (elements_append s.tree w.done rest))
      (wrote_then _ _ w.wrote v (λ e. any_right w.done rest) (λ t. t)))

  -- Some elements more are written one by one.
  pub written_some : {items rest : List V} {old mid new : S} (others : List V) (n : ℕ) → Written F s items rest old mid → 0 < n → n ≤ length rest
      → others ≡ drop n rest → Wrote F mid (encoded F s (take n rest)) (λ e. Any (λ x. s.refusal x e) (take n rest)) s.text (Ok tt) new
      → AllFit s.fits (take n rest) → Written F s items others old new
  written_some {rest} others n w some within o r f =
      let b : IsBlock s rest (encoded F s (take n rest)) n = record { some = some; within = within; gives = refl; fits = f } in
      written_more w b o (wrote_ok r)

  -- One of some elements is refused, and so is the list.
  pub written_refused : {items rest : List V} {old mid new : S} {e : Error} (n : ℕ) → Written F s items rest old mid
      → Wrote F mid (encoded F s (take n rest)) (λ e. Any (λ x. s.refusal x e) (take n rest)) s.text (Err e) new
      → Wrote F old (encoded F s items) (λ e. Any (λ x. s.refusal x e) items) s.text (Err e) new
  written_refused {rest} {mid} {new} {e} n w r =
      let front = take n rest in
      let others = drop n rest in
      written_end w (subst (λ z. Wrote F mid (encoded F s z) (λ e. Any (λ x. s.refusal x e) z) s.text (Err e) new) (take-append-drop n rest)
      (subst (λ z. Wrote F mid z (λ e. Any (λ x. s.refusal x e) (front ++ others)) s.text (Err e) new) (sym (elements_append s.tree front others))
      (wrote_stop _ _ r (λ e. any_left front others) (λ t. t))))

  -- Bytes that are the encodings of all that are left are written or refused, and so is the list.
  pub written_whole : {items rest : List V} {bytes : List ℕ} {old mid new : S} {r : Result (Unit {0}) Error} (w : Written F s items rest old mid)
      → AreBytesOf s rest bytes → Wrote F mid bytes never ⊥ r new
      → Wrote F old (encoded F s items) (λ e. Any (λ x. s.refusal x e) items) s.text r new
  written_whole {rest} {mid} {new} {r} w b v =
      written_end w (wrote_as (subst (λ z. Wrote F mid z never ⊥ r new) b.0 v) (λ e q. absurd q) (λ t. absurd t))

  -- If the elements that are left fit, all elements fit.
  pub written_fits : {items rest : List V} {old mid : S} (r : Result (Unit {0}) Error) → Written F s items rest old mid
      → OnOk r (AllFit s.fits rest) → OnOk r (AllFit s.fits items)
  written_fits {rest} (Ok ok) w h = subst (AllFit s.fits) (sym w.cut) (all_append s.fits w.done rest w.fits h)
  written_fits (Err e) w h = tt

  -- The elements that are left fit if bytes are their encodings.
  pub written_whole_fits : {items rest : List V} {bytes : List ℕ} {old mid : S} (r : Result (Unit {0}) Error) → Written F s items rest old mid
      → AreBytesOf s rest bytes → OnOk r (AllFit s.fits items)
  written_whole_fits (Ok ok) w b = written_fits (Ok ok) w b.1
  written_whole_fits (Err e) w b = tt

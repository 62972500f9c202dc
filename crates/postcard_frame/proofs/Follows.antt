-- What the name of a whole follows: steps from what parts of it follow. Assumes `Logic`.
use Rattle.std.proofs.Common.{[], ◌∷◌, refl}
use Rattle.std.specs.Prelude.{⊤}
use base.Fml.{GName, Fml, fex, feq, fsep, fauth, fres}
use base.Logic.{ent, sep, emp, wand}
use denote.Follow.{follows, follows_if, follows_so, follows_by, such_by, followed, follows_then}
use denote.RattleType.{RattleType}
use mathlib.Core.Option.{Option, none, some}
use seplogic.Ra.Ura.{Ura}
use types.Kit.{‵, raw, ◌$◌, ◌∵◌, !, qed, keep, use2, each, assume, feq_i, fjoin, fpack, done}
use types.Logic.{Logic, sem}

module _ {M : Type 1} {𝓤 : Ura M} (𝓛 : Logic 𝓤) (R : RattleType) where
  open 𝓛 use {A}

  -- A name follows itself.
  pub follows_self : (γ : GName) → ent 𝓤 (emp 𝓤) (sem 𝓛 (follows R R γ γ (λ w. w)))
  follows_self γ =
      let From : R.Denot → R.Denot → Fml = λ z w. fsep (feq R.Denot z w) (fauth γ (R.coded.code w)) in
      let said = qed 𝓛 (raw (emp 𝓤) ∷ []) ∵ each ! (λ (w : R.Denot). wand 𝓤 (A.res γ (R.coded.code w)) (A.res γ (R.coded.code w))) (λ w.
      assume {P = A.res γ (R.coded.code w)} ! (‵ (fres γ (R.coded.code w))) $ keep ! (0 ∷ []) $ done !) in
      let back = qed 𝓛 (raw (emp 𝓤) ∷ []) ∵ each ! (λ (z : R.Denot). wand 𝓤 (A.auth γ (R.coded.code z)) (sem 𝓛 (fex R.Denot (From z)))) (λ z.
      assume {P = sem 𝓛 (fex R.Denot (From z))} ! (‵ (fauth γ (R.coded.code z))) $ feq_i ! R.Denot z z refl $ fjoin ! $ fpack ! R.Denot (From z) z $ keep ! (0 ∷ []) $ done !) in
      record { apply = λ a p. (said.apply a p, back.apply a p) }

  -- The whole ends at a value that is known, of which P₀ holds.
  pub ends_so : (γ : GName) (v : R.Denot) (P₀ : R.Denot → Type 0) → P₀ v
      → ent 𝓤 (A.res γ (R.coded.code v)) (sem 𝓛 (follows_so R R γ none (λ _ _. ⊤) P₀))
  unfolding such_by follows_by
  ends_so γ v P₀ p = qed 𝓛 (‵ (fres γ (R.coded.code v)) ∷ []) ∵
      fpack ! ((s : (R.Denot → R.Denot) × R.Denot) × ((w : R.Denot) → ⊤) × P₀ s.1) (λ s. follows_by R.Denot R.Denot R.coded.code R.coded.code γ none s.0.0 s.0.1) (((λ w. w), v), (λ w. tt), p) $ done !

module _ {M : Type 1} {𝓤 : Ura M} (𝓛 : Logic 𝓤) (R U : RattleType) (γ δ : GName) (F : U.Denot → R.Denot) (x : U.Denot) (P : U.Denot → R.Denot → Type 0) (P₀ : R.Denot → Type 0) where
  -- The whole follows a part, and the part is handed on as it is, or ends as x.
  pub hands_on : (m : Option GName) → ((w : U.Denot) → P w (F w)) → P₀ (F x)
      → ent 𝓤 (sep 𝓤 (sem 𝓛 (follows R U γ δ F)) (sem 𝓛 (follows_if U U δ m (λ w. w) x))) (sem 𝓛 (follows_so R U γ m P P₀))
  unfolding such_by follows_by
  hands_on none p p₀ = qed 𝓛 (‵ (follows R U γ δ F) ∷ ‵ (fres δ (U.coded.code x)) ∷ []) ∵
      use2 𝓛 (‵ (fres γ (R.coded.code (F x)))) (followed 𝓛 R U F γ δ x) $
      fpack ! ((s : (U.Denot → R.Denot) × R.Denot) × ((w : U.Denot) → P w (s.0 w)) × P₀ s.1) (λ s. follows_by R.Denot U.Denot R.coded.code U.coded.code γ none s.0.0 s.0.1) ((F, F x), p, p₀) $ done !
  hands_on (some δ') p p₀ = qed 𝓛 (‵ (follows R U γ δ F) ∷ ‵ (follows U U δ δ' (λ w. w)) ∷ []) ∵
      use2 𝓛 (‵ (follows R U γ δ' F)) (follows_then 𝓛 R U U F (λ w. w) γ δ δ') $
      fpack ! ((s : (U.Denot → R.Denot) × R.Denot) × ((w : U.Denot) → P w (s.0 w)) × P₀ s.1) (λ s. follows_by R.Denot U.Denot R.coded.code U.coded.code γ (some δ') s.0.0 s.0.1) ((F, F x), p, p₀) $ done !

-- How a walk by hand takes a `Result` and a pair apart. Assumes `Logic`.
use Rattle.std.proofs.Common.{◌≡◌, ℕ, List, [], ◌∷◌, ◌++◌, refl, ap, ◌∙◌, append-nil, Ok, Err}
use Rattle.std.specs.contracts.result.Result as RS
use base.Logic.{ent, sep, ex, guard}
use denote.Laws.{Typed}
use denote.RattleType.{RattleType}
use denote.Struct.Tuple.{Tuple}
use lib.Dec.{T as Holds}
use mir.Syntax.{Ty}
use mir.Val.{Val, vstruct, of_list, WT, has_ty}
use seplogic.Ra.Ura.{Ura}
use types.Kit.{‵, ◌$◌, ◌∵◌, !, qed, keep, fsplit, fsplit3, fpick, feq_l, check, show, done}
use types.Logic.{Logic, sem}
use types.Match.{live}

-- The machine values of a type that is one value are one.
pub one : (τ : Ty) (vs : List Val) → Typed (τ ∷ []) vs → (v : Val) × (vs ≡ v ∷ [])
    × (Holds (has_ty τ v) × WT v)
one τ [] t = absurd t
one τ (v ∷ []) t = (v, refl, t.0)
one τ (v ∷ w ∷ vs) t = absurd t.1

module _ {M : Type 1} {𝓤 : Ura M} (𝓛 : Logic 𝓤) (R S : RattleType) where
  abbrev pub Tagged : ℕ → List Val → List Val → Type 0
  Tagged k vs us = vs ≡ live k (of_list us) ∷ []

  pub ok_in : (x : R.Denot) (vs : List Val) → ent 𝓤 (sem 𝓛 ((RS.the_row R S).own_val (Ok x) vs)) (ex 𝓤 (λ (us : List Val). guard 𝓤 (Tagged 0 vs us) (sem 𝓛 (R.own_val x us))))
  ok_in x vs = qed 𝓛 (‵ ((RS.the_row R S).own_val (Ok x) vs) ∷ []) ∵ fpick ! (λ ts. fsplit ! $ feq_l ! (λ e. fpick ! (λ vss. fsplit ! $ feq_l ! (λ e'. fsplit ! $ keep ! (0 ∷ []) $
      show ! (λ (us : List Val). guard 𝓤 (Tagged 0 vs us) (sem 𝓛 (R.own_val x us))) vss.0 $ check ! (e ∙ ap (λ (ws : List Val). live 0 (of_list ws) ∷ []) (e' ∙ append-nil vss.0)) $ done !))))

  pub err_in : (x : S.Denot) (vs : List Val) → ent 𝓤 (sem 𝓛 ((RS.the_row R S).own_val (Err x) vs)) (ex 𝓤 (λ (us : List Val). guard 𝓤 (Tagged 1 vs us) (sem 𝓛 (S.own_val x us))))
  err_in x vs = qed 𝓛 (‵ ((RS.the_row R S).own_val (Err x) vs) ∷ []) ∵ fpick ! (λ ts. fsplit ! $ feq_l ! (λ e. fpick ! (λ vss. fsplit ! $ feq_l ! (λ e'. fsplit ! $ keep ! (0 ∷ []) $
      show ! (λ (us : List Val). guard 𝓤 (Tagged 1 vs us) (sem 𝓛 (S.own_val x us))) vss.0 $ check ! (e ∙ ap (λ (ws : List Val). live 1 (of_list ws) ∷ []) (e' ∙ append-nil vss.0)) $ done !))))

  abbrev pub Paired : List Val → List Val × List Val → Type 0
  Paired vs us = vs ≡ vstruct (of_list (us.0 ++ (us.1 ++ []))) ∷ []

  pub pair_in : (x : R.Denot) (y : S.Denot) (vs : List Val) → ent 𝓤 (sem 𝓛 ((Tuple (R ∷ S ∷ [])).own_val (x, y) vs)) (ex 𝓤 (λ (us : List Val × List Val). guard 𝓤 (Paired vs us) (sep 𝓤 (sem 𝓛 (R.own_val x us.0)) (sem 𝓛 (S.own_val y us.1)))))
  pair_in x y vs = qed 𝓛 (‵ ((Tuple (R ∷ S ∷ [])).own_val (x, y) vs) ∷ []) ∵ fpick ! (λ vss. fsplit ! $ feq_l ! (λ e. fsplit3 ! $ keep ! (0 ∷ 1 ∷ []) $
      show ! (λ (us : List Val × List Val). guard 𝓤 (Paired vs us) (sep 𝓤 (sem 𝓛 (R.own_val x us.0)) (sem 𝓛 (S.own_val y us.1)))) (vss.0, vss.1.0) $ check ! e $ done !))

-- Lemmas on a property that holds of some entry of a list.
use Rattle.std.proofs.Common.{◌≡◌, ◌<◌, List, ◌∷◌, ◌++◌, length, get_or, subst, arith, length-append}
use Rattle.std.proofs.lemmas.Grind.{common_steps}
use Rattle.std.specs.Prelude.{Any}

-- If P holds of an entry in the middle, it holds of some entry.
pub any_mid : {A : Type 0} {P : A → Type 0} (before : List A) (x : A) (after all : List A) → before ++ (x ∷ after) ≡ all → P x → Any P all
any_mid {A} {P} before x after all e p =
    let n : length before < length (before ++ (x ∷ after)) = omega (arith, length-append before (x ∷ after)) in
    let a : get_or (before ++ (x ∷ after)) (length before) x ≡ x = grind (arith, common_steps) in
    subst (λ z. Any P z) e (length before, x, n, a, p)

-- Lemma for the printing of a path: the text of the first steps, and of one step more.
use Rattle.std.proofs.Common.{◌≡◌, ℕ, zero, suc, ◌+◌, ◌<◌, List, [], ◌∷◌, ◌++◌, map, length, take, get_or, sym, ap, ◌∙◌, arith}
use native.Mathlib.Numerals.{add-one}
use Rattle.std.proofs.lemmas.List.{append-nil, append_assoc}
use Rattle.postcard_schema.specs.declared.path.Step.{Step}
use Rattle.postcard_schema.specs.Paths.{path_text, placed_text, plain_step, steps_text}

steps_next : (k n : ℕ) (d : Step) (ss : List Step) (i : ℕ) → i < length ss → n ≡ k + i
    → steps_text k (map plain_step (take (suc i) ss)) ≡ steps_text k (map plain_step (take i ss)) ++ placed_text n (plain_step (get_or ss i d))
steps_next k n d [] i low e = absurd (omega (arith, low))
steps_next k n d (s ∷ ss) zero low e = append-nil (placed_text k (plain_step s)) ∙ ap (λ m. placed_text m (plain_step s)) (omega (arith, e))
steps_next k n d (s ∷ ss) (suc i) low e =
    let here = placed_text k (plain_step s) in
    ap (λ t. here ++ t) (steps_next (suc k) n d ss i (omega (arith, low)) (omega (arith, e)))
    ∙ sym (append_assoc here (steps_text (suc k) (map plain_step (take i ss))) (placed_text n (plain_step (get_or ss i d))))

-- The text of the first i + 1 steps is that of the first i and then that of step i.
pub steps_more : (d : Step) (ss : List Step) (i : ℕ) → i < length ss
    → path_text (take (i + 1) ss) ≡ path_text (take i ss) ++ placed_text i (plain_step (get_or ss i d))
steps_more d ss i low = rw (add-one i) (steps_next 0 i d ss i low (omega arith))

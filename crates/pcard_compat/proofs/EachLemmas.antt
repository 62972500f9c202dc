-- Lemmas on texts in a row, one for each item of a list.
use Rattle.std.proofs.Common.{◌≡◌, ℕ, ◌+◌, ◌<◌, List, [], ◌∷◌, ◌++◌, length, take, get_or, refl, sym, ap, subst, ◌∙◌, append_assoc}
use Rattle.std.proofs.lemmas.List.{append-nil, take_more}
use Rattle.pcard_compat.specs.Texts.{AreEach}

-- One item more adds its text.
pub each_more : {A : Type 0} (P : A → List ℕ → Type 0) (xs : List A) (x : A) (said more : List ℕ) → AreEach P xs said → P x more → AreEach P (xs ++ x ∷ []) (said ++ more)
each_more P [] x said more none p = (more, [], p, refl, ap (λ (t : List ℕ). t ++ more) none ∙ sym (append-nil more))
each_more P (y ∷ ys) x said more (first, rest, q, each, is) p =
    (first, rest ++ more, q, each_more P ys x rest more each p, ap (λ (t : List ℕ). t ++ more) is ∙ append_assoc first rest more)

-- The text of the element at an index, after those before it.
pub each_at : {A : Type 0} (P : A → List ℕ → Type 0) (xs : List A) (k : ℕ) (x : A) (said more : List ℕ) → k < length xs → x ≡ get_or xs k x → AreEach P (take k xs) said → P x more
    → AreEach P (take (k + 1) xs) (said ++ more)
each_at P xs k x said more low is each p =
    subst (λ ys. AreEach P ys (said ++ more)) (sym (take_more xs k x low ∙ ap (λ y. take k xs ++ y ∷ []) (sym is))) (each_more P (take k xs) x said more each p)

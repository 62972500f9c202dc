-- A digest that takes one text after another has taken the two texts joined.
use Rattle.std.proofs.Common.{◌≡◌, ℕ, List, [], ◌∷◌, ◌++◌, sym, ap, ◌∙◌, subst, append_assoc}
use Rattle.std.specs.Prelude.{codes}
use Rattle.crc.specs.Digest.{Progress, Took}
use Rattle.postcard_key.specs.Keys.{Continues}

-- Taking xs and then ys is taking the two joined.
pub then_text : {d e f : Progress} {xs ys : List ℕ} → Continues d xs e → Continues e ys f → Continues d (xs ++ ys) f
then_text {d} {e} {f} {xs} {ys} h k = record { takes = λ a m t. subst (Took f a) (append_assoc m xs ys) (k.takes a (m ++ xs) (h.takes a m t)) }

pub with_text : {d e : Progress} {xs ys : List ℕ} → xs ≡ ys → Continues d xs e → Continues d ys e
with_text {d} {e} is h = subst (λ zs. Continues d zs e) is h

-- The signs at the end of a map's entry and of the list, in one piece.
pub map_text : (k v : List ℕ) → codes "[(" ++ (k ++ (codes "," ++ (v ++ codes ",)]"))) ≡ codes "[" ++ ((codes "(" ++ (k ++ (codes "," ++ (v ++ (codes "," ++ codes ")"))))) ++ codes "]")
map_text k v = ap (λ z. 91 ∷ 40 ∷ z) (sym (append_assoc k (44 ∷ (v ++ (44 ∷ 41 ∷ []))) (93 ∷ []) ∙ ap (λ z. k ++ (44 ∷ z)) (append_assoc v (44 ∷ 41 ∷ []) (93 ∷ []))))

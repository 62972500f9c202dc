-- The encodings of a list's elements, one after the other.
use Rattle.std.proofs.Common.{◌≡◌, ℕ, ◌+◌, ◌<◌, List, [], ◌∷◌, ◌++◌, length, take, drop, get_or, refl, sym, ap, suc, ◌∙◌, append_assoc, append-nil, length-append, arith}
use Rattle.std.proofs.lemmas.Grind.{common_steps}
use Rattle.std.specs.Prelude.{Any, map}
use Rattle.std.proofs.lemmas.List.{take_more, get_or_append_left}
use Rattle.postcard_wire.specs.Spelling.{canonical, canonical_all}
use Rattle.postcard_wire.specs.Tree.{Tree, trees, count}

module _ {A : Type 0} (f : A → Tree) where
  -- The encodings of two lists joined are those of the first list, followed by those of the second.
  pub elements_append : (xs ys : List A) → canonical_all (trees (map f (xs ++ ys))) ≡ canonical_all (trees (map f xs)) ++ canonical_all (trees (map f ys))
  elements_append [] ys = refl
  elements_append (x ∷ xs) ys = ap (λ z. canonical (f x) ++ z) (elements_append xs ys) ∙ sym (append_assoc (canonical (f x)) (canonical_all (trees (map f xs))) (canonical_all (trees (map f ys))))

  -- A list has one tree for each element.
  pub elements_count : (xs : List A) → count (trees (map f xs)) ≡ length xs
  elements_count [] = refl
  elements_count (x ∷ xs) = ap (λ n. suc n) (elements_count xs)

  -- The encoding of the element at place k follows those of the elements before it.
  pub elements_more : (xs : List A) (k : ℕ) (d : A) → k < length xs → d ≡ get_or xs k d → canonical_all (trees (map f (take k xs))) ++ canonical (f d) ≡ canonical_all (trees (map f (take (k + 1) xs)))
  elements_more xs k d h e =
      sym (ap (λ z. canonical_all (trees (map f z))) (take_more xs k d h ∙ ap (λ z. take k xs ++ z ∷ []) (sym e)) ∙ elements_append (take k xs) (d ∷ []) ∙ ap (λ z. canonical_all (trees (map f (take k xs))) ++ z) (append-nil (canonical (f d))))

  -- A list is the elements before a place, the one there, and those after it.
  pub list_cut : (xs : List A) (k : ℕ) (d : A) → k < length xs → xs ≡ take k xs ++ (get_or xs k d ∷ drop (k + 1) xs)
  list_cut xs k d h = grind (arith, common_steps)

  -- The encodings of a list are those before a place, that of the element there, and those after
  -- it.
  pub elements_cut : (xs : List A) (k : ℕ) (d : A) → k < length xs → d ≡ get_or xs k d → canonical_all (trees (map f (take k xs))) ++ (canonical (f d) ++ canonical_all (trees (map f (drop (k + 1) xs)))) ≡ canonical_all (trees (map f xs))
  elements_cut xs k d h e =
      sym (ap (λ z. canonical_all (trees (map f z))) (list_cut xs k d h ∙ ap (λ z. take k xs ++ z ∷ drop (k + 1) xs) (sym e)) ∙ elements_append (take k xs) (d ∷ drop (k + 1) xs))

-- If P holds of the element at a place, it holds of some element.
pub any_at : {A : Type 0} {P : A → Type 0} (xs : List A) (k : ℕ) (d : A) → k < length xs → d ≡ get_or xs k d → P d → Any P xs
any_at xs k d h e p = (k, d, h, sym e, p)

-- If P holds of some element of one of two lists, it holds of some element of both joined.
pub any_left : {A : Type 0} {P : A → Type 0} (xs ys : List A) → Any P xs → Any P (xs ++ ys)
any_left xs ys (i, x, low, is, p) = (i, x, omega (arith, length-append xs ys, low), get_or_append_left xs ys x i low ∙ is, p)

pub any_right : {A : Type 0} {P : A → Type 0} (xs ys : List A) → Any P ys → Any P (xs ++ ys)
any_right xs ys (i, x, low, is, p) =
    let there : get_or (xs ++ ys) (length xs + i) x ≡ x = grind (arith, common_steps, is, low) in
    (length xs + i, x, omega (arith, length-append xs ys, low), there, p)

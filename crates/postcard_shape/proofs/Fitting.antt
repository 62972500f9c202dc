-- When every element of a list fits: of two lists joined, of a list that grows by one element, and of bytes.
use Rattle.std.proofs.Common.{◌≡◌, ℕ, ◌+◌, ◌<◌, List, [], ◌∷◌, ◌++◌, length, take, get_or, subst, sym, ap, ◌∙◌}
use Rattle.std.proofs.lemmas.List.{take_more}
use Rattle.postcard_shape.specs.Lists.{AllFit}

module _ {V : Type 0} (fits : V → Type 0) where
  -- Every element of two lists joined fits, if every element of each does.
  pub all_append : (xs ys : List V) → AllFit fits xs → AllFit fits ys → AllFit fits (xs ++ ys)
  all_append [] ys a b = b
  all_append (x ∷ xs) ys a b = (a.0, all_append xs ys a.1 b)

  -- Every element up to and with the one at place k fits, if those before it and it do.
  pub one_more_fits : (xs : List V) (k : ℕ) (d : V) → k < length xs → d ≡ get_or xs k d → AllFit fits (take k xs) → fits d → AllFit fits (take (k + 1) xs)
  one_more_fits xs k d h e a f =
      subst (λ (z : List V). AllFit fits z) (sym (take_more xs k d h ∙ ap (λ z. take k xs ++ z ∷ []) (sym e))) (all_append (take k xs) (d ∷ []) a (f, tt))

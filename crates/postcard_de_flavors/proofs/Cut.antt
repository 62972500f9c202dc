-- Cutting bytes off the front of a list.
use Rattle.std.proofs.Common.{◌≡◌, ℕ, ◌≤◌, List, ◌++◌, length, take, drop, sym, ap, ◌∙◌, arith, length-append}
use Rattle.std.proofs.lemmas.List.{take-append-drop}
use Rattle.postcard_de_flavors.specs.Source.{known, Takes, IsEndOf}
use Rattle.postcard_de_flavors.proofs.Rear.{no_scratch}

-- What follows the first n elements of a list is an end of the list.
pub is_end : (s all t : List ℕ) (n : ℕ) → all ≡ s → t ≡ drop n all → IsEndOf t s
is_end s all t n e left = (take n all, sym e ∙ (sym (take-append-drop n all) ∙ ap (λ (l : List ℕ). take n all ++ l) (sym left)))

-- If s is p and then t, the source over s from which p is taken has t left.
pub taken : (s p t : List ℕ) → s ≡ p ++ t → Takes known (λ l n. n ≤ length l) s p t
taken s p t e = record { drops = e; scratch = no_scratch (length p); keeps = λ n h. omega (arith, ap (λ (l : List ℕ). length l) e, length-append p t) }

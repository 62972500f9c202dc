-- Distinct keys, or entries of distinct keys, that are put one after another into an empty container are what it then has.
use Rattle.std.specs.Prelude.{◌≡◌, Bool, false, List, [], ◌∷◌, ◌++◌, None}
use Rattle.std.specs.Cmp.{IsEquivalence}
use Rattle.std.specs.List.{AllByRecursion, IsDistinct, list_any}
use Rattle.std.specs.Map.{keys_of, lookup}
use Rattle.std.proofs.Common.{refl, sym, subst, ◌∙◌, append-nil, append_assoc}
use Rattle.std.proofs.lemmas.List.Sorted.{IsPermutation-sym, IsPermutation-to_front}
use Rattle.postcard_shape.specs.Maps.{Puts, PutsKey, PutsPair}

-- Putting elements and one more at their end is putting the elements and then that one.
pub puts_last : {V : Type 0} (step : V → List V → List V → Type 0) (xs : List V) (x : V) (vs us ws : List V) → Puts step xs vs us → step x us ws → Puts step (xs ++ x ∷ []) vs ws
puts_last step [] x vs us ws h k = (ws, subst (λ z. step x z ws) h k, refl)
puts_last step (y ∷ ys) x vs us ws h k = (h.0, h.1, puts_last step ys x h.0 us ws h.2 k)

-- What holds of all elements holds of one in the middle.
in_middle : {A : Type 0} (P : A → Type 0) (ks : List A) (k : A) (ls : List A) → AllByRecursion P (ks ++ k ∷ ls) → P k
in_middle P [] k ls a = a.0
in_middle P (x ∷ ks) k ls a = in_middle P ks k ls a.1

module _ {A : Type 0} (eq : A → A → Bool) (laws : IsEquivalence eq) where
  -- Of distinct keys, none before one is equal to it.
  is_new : (ks : List A) (k : A) (ls : List A) → IsDistinct eq (ks ++ k ∷ ls) → list_any (eq k) ks ≡ false
  unfolding IsDistinct
  is_new [] k ls d = refl
  is_new (x ∷ ks) k ls d =
      let apart : eq k x ≡ false = laws.symm k x ∙ in_middle (λ y. eq x y ≡ false) ks k ls d.0 in
      rw apart (is_new ks k ls d.1)

  -- Putting further distinct keys into a set appends them, in one of the orders that it may keep.
  puts_onto : (ls ks : List A) → IsDistinct eq (ks ++ ls) → Puts (PutsKey eq) ls ks (ks ++ ls)
  puts_onto [] ks d = append-nil ks
  puts_onto (l ∷ ls) ks d =
      let moved : (ks ++ l ∷ []) ++ ls ≡ ks ++ l ∷ ls = append_assoc ks (l ∷ []) ls in (
        ks ++ l ∷ [],
        rw (is_new ks l ls d) (IsPermutation-sym (ks ++ l ∷ []) (l ∷ ks) (IsPermutation-to_front ks l)),
        subst (λ (z : List A). Puts (PutsKey eq) ls (ks ++ l ∷ []) z) moved (puts_onto ls (ks ++ l ∷ []) (subst (λ (z : List A). IsDistinct eq z) (sym moved) d)),
      )

  -- Putting distinct keys into an empty set makes a set of just these keys.
  pub puts_itself : (ks : List A) → IsDistinct eq ks → Puts (PutsKey eq) ks [] ks
  puts_itself ks d = puts_onto ks [] d

  module _ {B : Type 0} where
    -- Of entries of distinct keys, none before one has a key that is equal to its own.
    is_absent : (es : List (A × B)) (p : A × B) (fs : List (A × B)) → IsDistinct eq (keys_of (es ++ p ∷ fs)) → lookup (eq p.0) es ≡ None
    unfolding IsDistinct
    is_absent [] p fs d = refl
    is_absent (e ∷ es) p fs d =
        let apart : eq p.0 e.0 ≡ false = laws.symm p.0 e.0 ∙ key_in_middle (λ y. eq e.0 y ≡ false) es p fs d.0 in
        rw apart (is_absent es p fs d.1)
      where
        key_in_middle : (P : A → Type 0) (es : List (A × B)) (p : A × B) (fs : List (A × B)) → AllByRecursion P (keys_of (es ++ p ∷ fs)) → P p.0
        key_in_middle P [] p fs a = a.0
        key_in_middle P (e ∷ es) p fs a = key_in_middle P es p fs a.1

    -- Putting further entries of distinct keys into a map appends them, in one of the orders that it may keep.
    pairs_onto : (fs es : List (A × B)) → IsDistinct eq (keys_of (es ++ fs)) → Puts (PutsPair eq) fs es (es ++ fs)
    pairs_onto [] es d = append-nil es
    pairs_onto (f ∷ fs) es d =
        let moved : (es ++ f ∷ []) ++ fs ≡ es ++ f ∷ fs = append_assoc es (f ∷ []) fs in (
          es ++ f ∷ [],
          rw (is_absent es f fs d) (IsPermutation-sym (es ++ f ∷ []) (f ∷ es) (IsPermutation-to_front es f)),
          subst (λ (z : List (A × B)). Puts (PutsPair eq) fs (es ++ f ∷ []) z) moved (pairs_onto fs (es ++ f ∷ []) (subst (λ (z : List (A × B)). IsDistinct eq (keys_of z)) (sym moved) d)),
        )

    -- Putting entries of distinct keys into an empty map makes a map of just these entries.
    pub pairs_itself : (es : List (A × B)) → IsDistinct eq (keys_of es) → Puts (PutsPair eq) es [] es
    pairs_itself es d = pairs_onto es [] d

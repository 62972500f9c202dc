-- Facts of a list that a loop proves from the end: if the fact holds of the items from the loop's place on, it holds of all.
use Rattle.std.proofs.Common.{◌≡◌, ℕ, ◌+◌, ◌<◌, ◌≤◌, List, [], ◌∷◌, ◌-◌, length, get_or, take, drop, arith, sym, ap, subst, ◌∙◌}
use Rattle.std.proofs.lemmas.List.{drop_all, drop_more, length-drop, take_all}

-- If the fact holds of the items from place i on, it holds of all.
abbrev pub Reaches : {A : Type 0} → (List A → Type 0) → ℕ → List A → Type 0
Reaches P i xs = P (drop i xs) → P xs

-- The items from place i on are the item there and those after it.
pub item_first : {A : Type 0} (xs : List A) (i : ℕ) (x : A) → i < length xs → x ≡ get_or xs i x → drop i xs ≡ x ∷ drop (i + 1) xs
item_first xs i x low is = drop_more xs i x low ∙ ap (λ y. y ∷ drop (i + 1) xs) (sym is)

-- The fact of the item and those after it is that of all.
pub reached : {A : Type 0} (P : List A → Type 0) (xs : List A) (i : ℕ) (x : A) → i < length xs → x ≡ get_or xs i x → Reaches P i xs
    → P (x ∷ drop (i + 1) xs) → P xs
reached P xs i x low is reaches h = reaches (subst P (sym (item_first xs i x low is)) h)

-- At the end, the fact of no items is that of all.
pub reached_end : {A : Type 0} (P : List A → Type 0) (xs : List A) (i : ℕ) → length xs ≤ i → Reaches P i xs → P [] → P xs
reached_end P xs i end reaches h = reaches (subst P (sym (drop_all i xs end)) h)

-- The slice from place i to the end is the items from there on.
pub slice_end : {A : Type 0} (xs ys : List A) (i : ℕ) → xs ≡ ys → take (length xs - i) (drop i xs) ≡ drop i ys
slice_end xs ys i e = take_all (length xs - i) (drop i xs) (omega (arith, length-drop i xs)) ∙ ap (drop i) e

-- The entries of an ordered map, and the keys of an ordered set, are those that inserting them one after another makes.
use Rattle.std.specs.Prelude.{◌≡◌, List, [], ◌∷◌, ◌++◌}
use Rattle.std.specs.Cmp.{IsTotalOrder}
use Rattle.std.specs.List.{AllByRecursion}
use Rattle.std.specs.List.Sorted.{IsStrictlySortedBy}
use Rattle.std.specs.Map.{keys_of}
use Rattle.std.specs.Ordering.{ordering_reverse}
use Rattle.std.specs.declared.cmp.Ordering.{Ordering}
use Rattle.std.specs.declared.cmp.Ordering.TheVariants.{Less, Greater}
use Rattle.std.specs.BTreeMap.{insert_entry}
use Rattle.std.specs.BTreeSet.{insert_key}
use Rattle.std.proofs.Common.{refl, ap, sym, subst, ◌∙◌, append-nil, append_assoc}
use Rattle.std.proofs.lemmas.Map.Keys.{sorted_head, sorted_tail}
use Rattle.postcard_shape.specs.Maps.{inserted, keys_inserted}

module _ {A B : Type 0} (cmp : A → A → Ordering) (o : IsTotalOrder cmp) where
  -- An entry whose key is above all others is inserted last.
  insert_above : (es : List (A × B)) (k : A) (v : B) → AllByRecursion (λ y. cmp y k ≡ Less) (keys_of es) → insert_entry cmp es k v ≡ es ++ ((k, v) ∷ [])
  insert_above [] k v a = refl
  insert_above (e ∷ es) k v a =
      let above : cmp k e.0 ≡ Greater = o.antisymm k e.0 ∙ ap ordering_reverse a.0 in
      rw above (ap (λ (z : List (A × B)). e ∷ z) (insert_above es k v a.1))

  -- What holds of all keys holds of the key of an entry in the middle.
  middle_key : (P : A → Type 0) (es : List (A × B)) (p : A × B) (ps : List (A × B)) → AllByRecursion P (keys_of (es ++ (p ∷ ps))) → P p.0
  middle_key P [] p ps a = a.0
  middle_key P (e ∷ es) p ps a = middle_key P es p ps a.1

  -- The keys before an entry of an ordered list are below its key.
  keys_below : (es : List (A × B)) (p : A × B) (ps : List (A × B)) → IsStrictlySortedBy cmp (keys_of (es ++ (p ∷ ps))) → AllByRecursion (λ y. cmp y p.0 ≡ Less) (keys_of es)
  keys_below [] p ps s = tt
  keys_below (e ∷ es) p ps s = (middle_key (λ y. cmp e.0 y ≡ Less) es p ps (sorted_head cmp e.0 (keys_of (es ++ (p ∷ ps))) s), keys_below es p ps (sorted_tail cmp e.0 (keys_of (es ++ (p ∷ ps))) s))

  -- Inserting entries above those of a map appends them in their order.
  inserted_onto : (ps es : List (A × B)) → IsStrictlySortedBy cmp (keys_of (es ++ ps)) → inserted cmp ps es ≡ es ++ ps
  inserted_onto [] es s = sym (append-nil es)
  inserted_onto (p ∷ ps) es s =
      let one : insert_entry cmp es p.0 p.1 ≡ es ++ (p ∷ []) = insert_above es p.0 p.1 (keys_below es p ps s) in
      let moved : (es ++ (p ∷ [])) ++ ps ≡ es ++ (p ∷ ps) = append_assoc es (p ∷ []) ps in
      rw one (inserted_onto ps (es ++ (p ∷ [])) (subst (λ (z : List (A × B)). IsStrictlySortedBy cmp (keys_of z)) (sym moved) s) ∙ moved)

  -- Inserting ordered entries into an empty map makes just these entries.
  pub inserted_itself : (es : List (A × B)) → IsStrictlySortedBy cmp (keys_of es) → es ≡ inserted cmp es []
  inserted_itself es s = sym (inserted_onto es [] s)

module _ {A : Type 0} (cmp : A → A → Ordering) (o : IsTotalOrder cmp) where
  -- A key that is above all others is inserted last.
  insert_key_above : (ks : List A) (k : A) → AllByRecursion (λ y. cmp y k ≡ Less) ks → insert_key cmp ks k ≡ ks ++ (k ∷ [])
  insert_key_above [] k a = refl
  insert_key_above (x ∷ xs) k a =
      let above : cmp k x ≡ Greater = o.antisymm k x ∙ ap ordering_reverse a.0 in
      rw above (ap (λ (z : List A). x ∷ z) (insert_key_above xs k a.1))

  -- What holds of all elements holds of one in the middle.
  middle_of : (P : A → Type 0) (ks : List A) (p : A) (ps : List A) → AllByRecursion P (ks ++ (p ∷ ps)) → P p
  middle_of P [] p ps a = a.0
  middle_of P (x ∷ xs) p ps a = middle_of P xs p ps a.1

  -- The keys before one of an ordered list are below it.
  all_below : (ks : List A) (p : A) (ps : List A) → IsStrictlySortedBy cmp (ks ++ (p ∷ ps)) → AllByRecursion (λ y. cmp y p ≡ Less) ks
  all_below [] p ps s = tt
  all_below (x ∷ xs) p ps s = (middle_of (λ y. cmp x y ≡ Less) xs p ps (sorted_head cmp x (xs ++ (p ∷ ps)) s), all_below xs p ps (sorted_tail cmp x (xs ++ (p ∷ ps)) s))

  -- Inserting keys above those of a set appends them in their order.
  keys_inserted_onto : (ps ks : List A) → IsStrictlySortedBy cmp (ks ++ ps) → keys_inserted cmp ps ks ≡ ks ++ ps
  keys_inserted_onto [] ks s = sym (append-nil ks)
  keys_inserted_onto (p ∷ ps) ks s =
      let one : insert_key cmp ks p ≡ ks ++ (p ∷ []) = insert_key_above ks p (all_below ks p ps s) in
      let moved : (ks ++ (p ∷ [])) ++ ps ≡ ks ++ (p ∷ ps) = append_assoc ks (p ∷ []) ps in
      rw one (keys_inserted_onto ps (ks ++ (p ∷ [])) (subst (λ (z : List A). IsStrictlySortedBy cmp z) (sym moved) s) ∙ moved)

  -- Inserting ascending keys into an empty set makes just these keys.
  pub keys_inserted_itself : (ks : List A) → IsStrictlySortedBy cmp ks → ks ≡ keys_inserted cmp ks []
  keys_inserted_itself ks s = sym (keys_inserted_onto ks [] s)

-- Reading elements of a list whose bytes are in memory.
use Rattle.std.proofs.Common.{◌≡◌, ℕ, suc, ◌≤◌, List, [], ◌∷◌, ◌++◌, length, take, drop, Ok, refl, sym}
use Rattle.std.proofs.Common.{◌∙◌, ap, subst, append_assoc}
use Rattle.std.proofs.lemmas.List.{take-append-drop, length-take-le}
use Rattle.postcard_wire.specs.declared.error.Error.{Error}
use Rattle.postcard_wire.specs.Tree.{Tree, Trees, Group, NoTrees, Then, count}
use Rattle.postcard_wire.specs.Spelling.{SpellsAll}
use Rattle.postcard_wire.specs.Reading.{IsDelimited}
use Rattle.postcard_wire.proofs.Delimited.{same_front, array_delimited}
use Rattle.postcard_shape.specs.Lists.{EachIs, AreRead, AreValues}
use Rattle.postcard_de_flavors.specs.Source.{Left, CanTake, Takes}
use Rattle.postcard_de_nodes.specs.Reads.{ReadsFrom}
use Rattle.postcard_de_nodes.specs.ReadLemmas.{Delimits, found}
use Rattle.postcard_de_nodes.specs.TakeLemmas.{faces}

-- `Group` is injective.
group_parts : (ts ss : Trees) → Group ts ≡ Group ss → ts ≡ ss
group_parts ts ss e = cc

-- Two fronts of the same bytes that spell n trees each are equal, and so are the trees.
row_delimits : (R : Tree → Type 0) → IsDelimited R → (n : ℕ) → Delimits SpellsAll (AreRead n R)
row_delimits R d n ts ss p q x y a b s t e =
    let k = array_delimited n R d (Group ts) (Group ss) p q x y (ts, refl, a.0, a.1)
    (ss, refl, b.0, b.1) s t e in
    (k.0, group_parts ts ss k.1)

-- As many values as trees.
counted : {V : Type 0} (I : Tree → V → Type 0) (ts : Trees) (vs : List V) → EachIs I ts vs → count ts ≡ length vs
counted I NoTrees [] h = refl
counted I NoTrees (v ∷ vs) h = absurd h
counted I (Then t ts) [] h = absurd h
counted I (Then t ts) (v ∷ vs) h = ap suc (counted I ts vs h.1)

module _ {S V : Type 0} {left : S → Left} {able : S → ℕ → Type 0}
    {may_leave : S → S → Type 0} where
  -- If elements were made of the first n bytes in memory and then n bytes were taken, they were
  -- read.
  pub at_hand_read : {R : Tree → Type 0} {I : Tree → V → Type 0} {H : Error → Type 0} {n : ℕ}
      {hand u : List ℕ} {old new : S} {vs : List V} → IsDelimited R → AreValues R I (take n hand) vs →
      n ≤ length hand → CanTake left able old hand → length u ≡ n → Takes left able old u new →
      may_leave old new →
      ReadsFrom SpellsAll (AreRead (length vs) R) (EachIs I) H left able may_leave old (Ok vs) new
  at_hand_read {R} {I} {H} {n} {hand} {u} {old} {new} {vs} d w le can e t l =
      let f = faces t can in
      let k : length (take n hand) ≡ n = length-take-le n hand le in
      let g : u ++ f.0 ≡ take n hand ++ (drop n hand ++ f.1) =
      f.2 ∙ (ap (λ (z : List ℕ). z ++ f.1) (sym (take-append-drop n hand))
      ∙ append_assoc (take n hand) (drop n hand) f.1) in
      let same : u ≡ take n hand =
      same_front u (take n hand) f.0 (drop n hand ++ f.1) (e ∙ sym k) g in
      found (row_delimits R d (length vs)) w.0 (take n hand) vs (counted I w.0 vs w.3, w.1) w.2 w.3
      (subst (λ (z : List ℕ). Takes left able old z new) same t) l

-- A number that was read, by itself and as a tree.
use Rattle.std.proofs.Common.{◌≡◌, ℕ, ◌<◌, ◌^◌, Ok, ℤ, refl, sym, ◌∙◌, subst}
use Rattle.postcard_wire.specs.Number.{SpellsNum, zigzag}
use Rattle.postcard_wire.specs.Tree.{Num, Int, IsWidth}
use Rattle.postcard_wire.specs.Spelling.{Spells}
use Rattle.postcard_wire.specs.Reading.{IsNum, IsInt}
use Rattle.postcard_wire.proofs.Delimited.{num_delimited, int_delimited}
use Rattle.postcard_wire.proofs.Ranged.{in_range}
use Rattle.postcard_shape.specs.Shape.{never}
use Rattle.postcard_de_flavors.specs.Source.{Left, Laws}
use Rattle.postcard_shape.specs.Leaves.{Same}
use Rattle.postcard_de_nodes.specs.Reads.{ReadsFrom}
use Rattle.postcard_de_nodes.specs.ReadLemmas.{found}

-- The numbers of w bits.
abbrev pub Below : ℕ → ℕ → Type 0
Below w n = n < 2 ^ w

module _ {S : Type 0} {left : S → Left} {able : S → ℕ → Type 0}
    {may_leave : S → S → Type 0} (laws : Laws left able may_leave) where
  -- A number that was read is one of its width.
  pub number_below : {w n : ℕ} {old new : S} →
      ReadsFrom (SpellsNum w) (Below w) Same never left able may_leave old (Ok n) new → n < 2 ^ w
  number_below {w} r = subst (Below w) r.gives.has r.gives.is_read

  -- The front that was taken spells the number that was read.
  pub number_spelled : {w n : ℕ} {old new : S} →
      (r : ReadsFrom (SpellsNum w) (Below w) Same never left able may_leave old (Ok n) new) →
      SpellsNum w n r.gives.front
  number_spelled {w} r =
      subst (λ (m : ℕ). SpellsNum w m r.gives.front) r.gives.has r.gives.is_spelled

  -- A call that read a number has read the tree `Num` of it.
  pub num_read : {w n : ℕ} {old new : S} → ReadsFrom (SpellsNum w) (Below w) Same never left able
      may_leave old (Ok n) new → ReadsFrom Spells (IsNum w) (λ t v. t ≡ Num w v) never left able
      may_leave old (Ok n) new
  num_read {w} {n} r =
      let g = r.gives in
      found (num_delimited w) (Num w n) g.front n (n, refl, number_below r) (number_spelled r) refl
      g.taken r.leaves

  -- A call that read the zigzag form of z has read the tree `Int` of z.
  pub int_read : {w n : ℕ} {old new : S} (z : ℤ) → IsWidth w → zigzag z ≡ n →
      ReadsFrom (SpellsNum w) (Below w) Same never left able may_leave old (Ok n) new →
      ReadsFrom Spells (IsInt w) (λ t v. t ≡ Int w v) never left able may_leave old (Ok z) new
  int_read {w} {n} z wide e r =
      let g = r.gives in
      let low : zigzag z < 2 ^ w = subst (Below w) (sym e) (number_below r) in
      found (int_delimited w) (Int w z) g.front z (z, refl, in_range w z wide low)
      (subst (λ (m : ℕ). SpellsNum w m g.front) (g.has ∙ sym e) g.is_spelled) refl g.taken
      r.leaves

-- Reading a number that isn't 0: the number is read, and 0 is refused.
use Rattle.std.proofs.Common.{◌≡◌, ℕ, ◌∙◌, inl, inr, ℤ, pos, List, Ok, Result, IsErrAnd, refl, ap, subst}
use Rattle.std.specs.Int.{w8, cast_unsigned}
use Rattle.postcard_wire.specs.declared.error.Error.{Error}
use Rattle.postcard_wire.specs.declared.error.Error.TheVariants.{SerdeDeCustom}
use Rattle.postcard_wire.specs.Tree.{Tree, Byte, Num, Int}
use Rattle.postcard_wire.specs.Spelling.{Spells}
use Rattle.postcard_wire.specs.Reading.{IsByte, IsNum, IsInt}
use Rattle.postcard_shape.specs.Leaves.{Without}
use Rattle.postcard_de_flavors.specs.declared.flavor.Flavor.{Ghosts}
use Rattle.postcard_de_nodes.specs.Nodes.{ReadsNode, tree_node, byte_node, signed_byte_node}
use Rattle.postcard_de_nodes.specs.Nodes.{num_node, int_node}
use Rattle.postcard_de_nodes.specs.Refuses.{WantsByte, WantsDigit}
use Rattle.postcard_de_nodes.specs.Unfit.{ZeroByte, ZeroNumber}
use Rattle.postcard_de_nodes.specs.ReadLemmas.{refusal, is_refusal, widened}
use Rattle.postcard_de_nodes.specs.SeenLemmas.{refused_too, unfit}

module _ {S M O V W : Type 0} {F : Ghosts S M O} {old new : S} {R Q : Tree → Type 0}
    {I : Tree → V → Type 0} {J : Tree → W → Type 0} {wants : List ℕ → ℕ → Type 0}
    {bad worse : List ℕ → Error → Type 0} where
  -- A failure to read a node is one to read fewer such nodes, with the error that `?` passes on.
  pub fewer_fail : {r : Result W Error} {e : Error} → ((t : Tree) → Q t → R t) →
      ((p : List ℕ) → bad p e → worse p e) → IsErrAnd r (λ x. x ≡ e) →
      ReadsNode F (tree_node R I wants bad) old (refusal V e) new →
      ReadsNode F (tree_node Q J wants worse) old r new
  fewer_fail {r} {e} fewer more is s = rw (is_refusal r e is) (record {
    reads = refused_too fewer (λ x h. h) s.reads;
    refused = widened (λ p n w. w) more s.refused;
  })

  -- If v was read, and is the value of none of fewer such nodes, that is why reading these fails.
  pub none_of_fewer : {v : V} → ((t : Tree) → Q t → R t) → ((t : Tree) → Q t → I t v → ⊥) →
      ((t : Tree) (p : List ℕ) → I t v → Spells t p → worse p SerdeDeCustom) →
      ReadsNode F (tree_node R I wants bad) old (Ok v) new →
      ReadsNode F (tree_node Q J wants worse) old (refusal W SerdeDeCustom) new
  none_of_fewer fewer none why s = record {
    reads = unfit tt fewer none s.reads;
    refused = let g = s.reads.gives in inr (record {
      front = g.front;
      taken = g.taken;
      why = why g.thing g.front g.has g.is_spelled;
    });
  }

module _ {S M O W : Type 0} {F : Ghosts S M O} {old new : S} {J : Tree → W → Type 0} where
  -- If the byte 0 was read, that is why reading one that isn't 0 fails.
  pub zero_byte : {n : ℕ} → n ≡ 0 → ReadsNode F byte_node old (Ok n) new →
      ReadsNode F (tree_node (Without (Byte 0) IsByte) J WantsByte ZeroByte) old
      (refusal W SerdeDeCustom) new
  zero_byte zero s = none_of_fewer (λ t r. r.0) (λ t r h. r.1 (h ∙ ap Byte zero))
      (λ t p h k. (refl, subst (λ (u : Tree). Spells u p) (h ∙ ap Byte zero) k)) s

  -- The same of the byte of the signed number 0.
  pub zero_signed_byte : {z : ℤ} → z ≡ pos 0 → ReadsNode F signed_byte_node old (Ok z) new →
      ReadsNode F (tree_node (Without (Byte 0) IsByte) J WantsByte ZeroByte) old
      (refusal W SerdeDeCustom) new
  zero_signed_byte zero s =
      none_of_fewer (λ t r. r.0)
      (λ t r h. r.1 (h ∙ ap (λ (v : ℤ). Byte (cast_unsigned w8 v)) zero))
      (λ t p h k. (
        refl,
        subst (λ (u : Tree). Spells u p) (h ∙ ap (λ (v : ℤ). Byte (cast_unsigned w8 v)) zero) k,
      )) s

  -- The same of the number 0 of w bits.
  pub zero_number : (w : ℕ) {n : ℕ} → n ≡ 0 → ReadsNode F (num_node w) old (Ok n) new →
      ReadsNode F (tree_node (Without (Num w 0) (IsNum w)) J (WantsDigit w) (ZeroNumber w)) old
      (refusal W SerdeDeCustom) new
  zero_number w zero s = none_of_fewer (λ t r. r.0) (λ t r h. r.1 (h ∙ ap (Num w) zero))
      (λ t p h k. inr (refl, subst (λ (u : Tree). Spells u p) (h ∙ ap (Num w) zero) k)) s

  -- The same of the signed number 0 of w bits.
  pub zero_signed : (w : ℕ) {z : ℤ} → z ≡ pos 0 → ReadsNode F (int_node w) old (Ok z) new →
      ReadsNode F (tree_node (Without (Int w (pos 0)) (IsInt w)) J (WantsDigit w) (ZeroNumber w)) old
      (refusal W SerdeDeCustom) new
  zero_signed w zero s = none_of_fewer (λ t r. r.0) (λ t r h. r.1 (h ∙ ap (Int w) zero))
      (λ t p h k. inr (refl, subst (λ (u : Tree). Spells u p) (h ∙ ap (Int w) zero) k)) s

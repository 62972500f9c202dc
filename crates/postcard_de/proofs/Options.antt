-- Reading an option: a byte, and after the byte 1 its content.
use Rattle.std.proofs.Common.{◌≡◌, ℕ, inl, inr, List, [], ◌∷◌}
use Rattle.std.proofs.Common.{◌++◌, Option, Some, Ok, refl, sym, ◌∙◌, ap, subst, arith}
use Rattle.postcard_wire.specs.declared.error.Error.{Error}
use Rattle.postcard_wire.specs.declared.error.Error.TheVariants.{OutOfMemory}
use Rattle.postcard_wire.specs.Tree.{Tree, Present}
use Rattle.postcard_wire.specs.Spelling.{Spells}
use Rattle.postcard_wire.specs.Reading.{IsOption}
use Rattle.postcard_de_flavors.specs.Source.{Left, CanTake, Takes, Laws}
use Rattle.postcard_de_nodes.specs.Reads.{ReadsFrom}
use Rattle.postcard_shape.specs.Options.{OptionIs}
use Rattle.postcard_de_nodes.specs.TakeLemmas.{both_taken, faces, can_second}
use Rattle.postcard_de_nodes.specs.ReadLemmas.{refusal}

-- If a list begins with the byte b and with a front, then the front begins with b.
first_byte : (b c : ℕ) (q y z : List ℕ) → (b ∷ []) ++ y ≡ (c ∷ q) ++ z → b ≡ c
first_byte b c q y z e = cc

module _ {S : Type 0} {left : S → Left} {able : S → ℕ → Type 0}
    {may_leave : S → S → Type 0} (laws : Laws left able may_leave) where
  module _ {V : Type 0} {R : Tree → Type 0} {I : Tree → V → Type 0} {G : Error → Type 0} where
    -- If the byte 1 was taken and the content was read, the option was read.
    pub some_read : {old mid new : S} {v : V} → Takes left able old (1 ∷ []) mid →
        may_leave old mid → ReadsFrom Spells R I G left able may_leave mid (Ok v) new →
        ReadsFrom Spells (IsOption R) (OptionIs I) G left able may_leave old (Ok (Some v)) new
    some_read {old = old} {mid = mid} {new = new} {v = v} t l r = let g = r.gives in record {
      gives = record {
        thing = Present g.thing;
        front = 1 ∷ g.front;
        is_read = inr (g.thing, refl, g.is_read);
        is_spelled = (1 ∷ [], g.front, refl, g.is_spelled, refl);
        has = (g.thing, refl, g.has);
        taken = both_taken t g.taken;
      };
      accepts = accepts;
      leaves = laws.joins old mid new l r.leaves;
      named_error = tt;
    }
      where
        accepts : (x : Tree) (p : List ℕ) → IsOption R x → Spells x p → CanTake left able old p →
            OptionIs I x (Some v) × Takes left able old p new
        accepts x p (inl a) s c =
            let k : p ≡ 0 ∷ [] = rw a at s in
            let f = faces t c in
            let e : 1 ≡ 0 = first_byte 1 0 [] f.0 f.1 (f.2 ∙ ap (λ (l : List ℕ). l ++ f.1) k) in
            absurd (omega (arith, e))
        accepts x p (inr a) s c =
            let k : Spells (Present a.0) p = rw a.1 at s in
            let j : p ≡ (1 ∷ []) ++ k.1 = k.4 ∙ ap (λ (l : List ℕ). l ++ k.1) k.2 in
            let m = r.accepts a.0 k.1 a.2 k.3 (can_second (1 ∷ []) k.1 (rw j at c) t) in (
              (a.0, a.1, m.0),
              subst (λ (l : List ℕ). Takes left able old l new) (sym j)
                  (both_taken t m.1),
            )

    -- If the byte 1 was taken and reading the content fails, reading the option fails with that error.
    pub some_refused : {old mid new : S} {e : Error} → Takes left able old (1 ∷ []) mid →
        may_leave old mid → ReadsFrom Spells R I G left able may_leave mid (refusal V e) new →
        ReadsFrom Spells (IsOption R) (OptionIs I) G left able may_leave old (refusal (Option V) e) new
    some_refused {old = old} {mid = mid} {new = new} {e = e} t l r = record {
      gives = tt;
      accepts = accepts;
      leaves = laws.joins old mid new l r.leaves;
      named_error = r.named_error;
    }
      where
        accepts : (x : Tree) (p : List ℕ) → IsOption R x → Spells x p → CanTake left able old p →
            e ≡ OutOfMemory
        accepts x p (inl a) s c =
            let k : p ≡ 0 ∷ [] = rw a at s in
            let f = faces t c in
            let is : 1 ≡ 0 = first_byte 1 0 [] f.0 f.1 (f.2 ∙ ap (λ (l : List ℕ). l ++ f.1) k) in
            absurd (omega (arith, is))
        accepts x p (inr a) s c =
            let k : Spells (Present a.0) p = rw a.1 at s in
            let j : p ≡ (1 ∷ []) ++ k.1 = k.4 ∙ ap (λ (l : List ℕ). l ++ k.1) k.2 in
            r.accepts a.0 k.1 a.2 k.3 (can_second (1 ∷ []) k.1 (rw j at c) t)

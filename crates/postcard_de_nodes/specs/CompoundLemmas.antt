-- Reading a thing and then a second, which may depend on the value of the first, as one thing made
-- of both.
use Rattle.std.proofs.Common.{◌≡◌, ℕ, List, ◌++◌, Ok, sym, subst}
use Rattle.postcard_wire.specs.declared.error.Error.{Error}
use Rattle.postcard_de_flavors.specs.Source.{Left, Takes, Laws}
use Rattle.postcard_de_nodes.specs.Reads.{ReadsFrom}
use Rattle.postcard_de_nodes.specs.ErrorLemmas.{wider}
use Rattle.postcard_de_nodes.specs.TakeLemmas.{both_taken, can_first, can_second}
use Rattle.postcard_de_nodes.specs.ReadLemmas.{refusal}

-- How a thing is made of two. The first is spelled, read and valued by P, R and I. The second, after
-- a first of value v, is spelled and read by Q and S v. What is made of both is spelled and read by
-- P' and R'.
pub record Compound {X Y Z V : Type 0} (make : X → Y → Z) (P : X → List ℕ → Type 0) (R : X → Type 0)
    (I : X → V → Type 0) (Q : Y → List ℕ → Type 0) (S : V → Y → Type 0) (P' : Z → List ℕ → Type 0)
    (R' : Z → Type 0) : Type 0 where
  pub joined : (x : X) (y : Y) (v : V) (p q : List ℕ) → R x → I x v → S v y → P x p → Q y q →
      R' (make x y) × P' (make x y) (p ++ q)
  pub parted : (z : Z) (r : List ℕ) → R' z → P' z r →
      (x : X) × (y : Y) × (p : List ℕ) × (q : List ℕ) × (make x y ≡ z) × R x × P x p × Q y q
      × (r ≡ p ++ q) × ((v : V) → I x v → S v y)

module _ {F : Type 0} {left : F → Left} {able : F → ℕ → Type 0}
    {may_leave : F → F → Type 0} (laws : Laws left able may_leave) {X Y Z V A : Type 0}
    {P : X → List ℕ → Type 0} {R : X → Type 0} {I : X → V → Type 0} {Q : Y → List ℕ → Type 0}
    {S : V → Y → Type 0} {P' : Z → List ℕ → Type 0} {R' : Z → Type 0} {K : Z → A → Type 0}
    {G H : Error → Type 0} {make : X → Y → Z} (both : Compound make P R I Q S P' R') where
  -- If reading the first fails, reading the whole fails with its error.
  pub first_refused : {old new : F} {e : Error} → ((e : Error) → G e → H e) →
      ReadsFrom P R I G left able may_leave old (refusal V e) new →
      ReadsFrom P' R' K H left able may_leave old (refusal A e) new
  first_refused {e = f} grow s = record {
    gives = tt;
    accepts = λ z r a b c. let (x, y, p, q, j, rx, px, qy, e, then) = both.parted z r a b in
        s.accepts x p rx px (can_first laws p q (rw e at c));
    leaves = s.leaves;
    named_error = wider grow f s.named_error;
  }

  -- If the first was read and reading the second fails, reading the whole fails with that error.
  pub second_refused : {W : Type 0} {J : Y → W → Type 0} {G' : Error → Type 0} {old mid new : F} {v : V}
      {e : Error} → ((e : Error) → G' e → H e) → ReadsFrom P R I G left able may_leave old (Ok v) mid →
      ReadsFrom Q (S v) J G' left able may_leave mid (refusal W e) new →
      ReadsFrom P' R' K H left able may_leave old (refusal A e) new
  second_refused {old = old} {mid = mid} {new = new} {v = v} {e = f} grow s t = record {
    gives = tt;
    accepts = λ z r a b c.
        let (x, y, p, q, j, rx, px, qy, e, then) = both.parted z r a b in
        let c0 = rw e at c in
        let one = s.accepts x p rx px (can_first laws p q c0) in
        t.accepts y q (then v one.0) qy (can_second p q c0 one.1);
    leaves = laws.joins old mid new s.leaves t.leaves;
    named_error = wider grow f t.named_error;
  }

  -- If both were read, the whole was read.
  pub both_read : {W : Type 0} {J : Y → W → Type 0} {G' : Error → Type 0} {old mid new : F} {v : V} {w : W}
      {a : A} → ((x : X) (y : Y) → I x v → J y w → K (make x y) a) →
      ReadsFrom P R I G left able may_leave old (Ok v) mid →
      ReadsFrom Q (S v) J G' left able may_leave mid (Ok w) new →
      ReadsFrom P' R' K H left able may_leave old (Ok a) new
  both_read {old = old} {mid = mid} {new = new} {v = v} {a = a} has s t =
      let g = s.gives in
      let k = t.gives in
      let m = both.joined g.thing k.thing v g.front k.front g.is_read g.has k.is_read g.is_spelled
      k.is_spelled in
      record {
        gives = record {
          thing = make g.thing k.thing;
          front = g.front ++ k.front;
          is_read = m.0;
          is_spelled = m.1;
          has = has g.thing k.thing g.has k.has;
          taken = both_taken g.taken k.taken;
        };
        accepts = λ z r b d c.
            let (x, y, p, q, j, rx, px, qy, e, then) = both.parted z r b d in
            let c0 = rw e at c in
            let one = s.accepts x p rx px (can_first laws p q c0) in
            let two = t.accepts y q (then v one.0) qy (can_second p q c0 one.1) in (
              subst (λ (o : Z). K o a) j (has x y one.0 two.0),
              subst
                  (λ (l : List ℕ). Takes left able old l new) (sym e) (both_taken one.1 two.1),
            );
        leaves = laws.joins old mid new s.leaves t.leaves;
        named_error = tt;
      }

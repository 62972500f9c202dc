-- A value that was read and is then turned into another, or refused; and a thing after which no
-- second may follow.
use Rattle.std.proofs.Common.{◌≡◌, ℕ, List, Ok, Result, IsErrAnd, refl}
use Rattle.postcard_wire.specs.declared.error.Error.{Error}
use Rattle.postcard_wire.specs.declared.error.Error.TheVariants.{OutOfMemory}
use Rattle.postcard_de_flavors.specs.Source.{Left, Laws}
use Rattle.postcard_de_nodes.specs.Reads.{IsReadError, ReadsFrom}
use Rattle.postcard_de_nodes.specs.ErrorLemmas.{wider}
use Rattle.postcard_de_nodes.specs.ReadLemmas.{refusal, is_refusal}
use Rattle.postcard_de_nodes.specs.TakeLemmas.{can_first}
use Rattle.postcard_de_nodes.specs.CompoundLemmas.{Compound}

module _ {S : Type 0} {left : S → Left} {able : S → ℕ → Type 0}
    {may_leave : S → S → Type 0} {X V : Type 0} {P : X → List ℕ → Type 0} {R : X → Type 0}
    {I : X → V → Type 0} {G : Error → Type 0} {old new : S} where
  -- A call that read v may return w instead, if w is the value of the same thing in a smaller set
  -- of things.
  pub seen_as : {W : Type 0} {R' : X → Type 0} {I' : X → W → Type 0} {H : Error → Type 0} {v : V} {w : W} →
      ((x : X) → R' x → R x) → ((x : X) → R x → I x v → R' x × I' x w) →
      ReadsFrom P R I G left able may_leave old (Ok v) new →
      ReadsFrom P R' I' H left able may_leave old (Ok w) new
  seen_as fewer fits r = record {
    gives = let g = r.gives in let k = fits g.thing g.is_read g.has in
        record {
          thing = g.thing;
          front = g.front;
          is_read = k.0;
          is_spelled = g.is_spelled;
          has = k.1;
          taken = g.taken;
        };
    accepts = λ x p a b c. let k = r.accepts x p (fewer x a) b c in
        ((fits x (fewer x a) k.0).1, k.1);
    leaves = r.leaves;
    named_error = tt;
  }

  -- A call that read v may return w instead, if w is a value of each thing that v is a value of.
  pub recast : {W : Type 0} {I' : X → W → Type 0} {H : Error → Type 0} {v : V} {w : W} →
      ((x : X) → I x v → I' x w) → ReadsFrom P R I G left able may_leave old (Ok v) new →
      ReadsFrom P R I' H left able may_leave old (Ok w) new
  recast has r = seen_as (λ x a. a) (λ x a h. (a, has x h)) r

  -- A call that read v may fail with e if v is the value of no thing in the smaller set.
  pub unfit : {W : Type 0} {R' : X → Type 0} {I' : X → W → Type 0} {H : Error → Type 0} {v : V} {e : Error}
      → IsReadError H e → ((x : X) → R' x → R x) → ((x : X) → R' x → I x v → ⊥) →
      ReadsFrom P R I G left able may_leave old (Ok v) new →
      ReadsFrom P R' I' H left able may_leave old (refusal W e) new
  unfit named fewer bad r = record {
    gives = tt;
    accepts = λ x p a b c. let k = r.accepts x p (fewer x a) b c in absurd (bad x a k.0);
    leaves = r.leaves;
    named_error = named;
  }

  -- A call that read a value may still return `OutOfMemory` if the type grows.
  pub no_room : {W : Type 0} {R' : X → Type 0} {I' : X → W → Type 0} {H : Error → Type 0} {v : V} → H OutOfMemory →
      ReadsFrom P R I G left able may_leave old (Ok v) new →
      ReadsFrom P R' I' H left able may_leave old (refusal W OutOfMemory) new
  no_room h r = record { gives = tt; accepts = λ x p a b c. refl; leaves = r.leaves; named_error = h }

  -- A failure to read one set of things is a failure to read a smaller set.
  pub refused_too : {W : Type 0} {R' : X → Type 0} {I' : X → W → Type 0} {H : Error → Type 0} {e : Error} →
      ((x : X) → R' x → R x) → ((e : Error) → G e → H e) → ReadsFrom P R I G left able may_leave old (refusal V e) new
      → ReadsFrom P R' I' H left able may_leave old (refusal W e) new
  refused_too {e = e} fewer grow r = record {
    gives = tt;
    accepts = λ x p a b c. r.accepts x p (fewer x a) b c;
    leaves = r.leaves;
    named_error = wider grow e r.named_error;
  }

  -- The same of the error that `?` passes on.
  pub passed_on : {W : Type 0} {R' : X → Type 0} {I' : X → W → Type 0} {H : Error → Type 0}
      {r : Result W Error} {e : Error} → ((x : X) → R' x → R x) → ((e : Error) → G e → H e) →
      IsErrAnd r (λ x. x ≡ e) → ReadsFrom P R I G left able may_leave old (refusal V e) new →
      ReadsFrom P R' I' H left able may_leave old r new
  passed_on {r = r} {e = e} fewer grow h s = rw (is_refusal r e h) (refused_too fewer grow s)

module _ {F : Type 0} {left : F → Left} {able : F → ℕ → Type 0}
    {may_leave : F → F → Type 0} (laws : Laws left able may_leave) {X Y Z V A : Type 0}
    {P : X → List ℕ → Type 0} {R : X → Type 0} {I : X → V → Type 0} {Q : Y → List ℕ → Type 0}
    {S : V → Y → Type 0} {P' : Z → List ℕ → Type 0} {R' : Z → Type 0} {K : Z → A → Type 0}
    {G H : Error → Type 0} {make : X → Y → Z} (both : Compound make P R I Q S P' R') where
  -- If the first was read and no second may follow it, the call may fail with e.
  pub none_follows : {old mid new : F} {v : V} {e : Error} → IsReadError H e → ((y : Y) → S v y → ⊥) →
      may_leave mid new → ReadsFrom P R I G left able may_leave old (Ok v) mid →
      ReadsFrom P' R' K H left able may_leave old (refusal A e) new
  none_follows {old = old} {mid = mid} {new = new} {v = v} named none l s = record {
    gives = tt;
    accepts = λ z r a b c.
        let (x, y, p, q, j, rx, px, qy, e, then) = both.parted z r a b in
        let one = s.accepts x p rx px (can_first laws p q (rw e at c)) in
        absurd (none y (then v one.0));
    leaves = laws.joins old mid new s.leaves l;
    named_error = named;
  }

-- Reading parts in a row, as of a tuple or a struct: reading the first fails, or it was read and
-- the others are read next.
use Rattle.std.proofs.Common.{◌≡◌, ℕ, inl, inr, List, [], Option, Ok, Result, IsErrAnd, refl}
use Rattle.std.proofs.Common.{sym}
use Rattle.postcard_wire.specs.declared.error.Error.{Error}
use Rattle.postcard_wire.specs.Tree.{Tree, Trees, Group, NoTrees, Then}
use Rattle.postcard_wire.specs.Spelling.{Spells, SpellsAll}
use Rattle.postcard_wire.specs.Reading.{IsEnd, IsThen, IsGroup}
use Rattle.postcard_de_flavors.specs.Source.{Left, Laws}
use Rattle.postcard_shape.specs.Shape.{never, either}
use Rattle.postcard_de_nodes.specs.Reads.{ReadsFrom}
use Rattle.postcard_de_nodes.specs.TakeLemmas.{nothing_taken}
use Rattle.postcard_de_nodes.specs.ReadLemmas.{refusal, is_refusal}
use Rattle.postcard_de_nodes.specs.CompoundLemmas.{Compound, first_refused, second_refused}
use Rattle.postcard_de_nodes.specs.CompoundLemmas.{both_read}

-- Parts in a row are made of one part and the rest.
pub part_and_rest : {V : Type 0} (R : Tree → Type 0) (I : Tree → V → Type 0) (Rs : Trees → Type 0) →
    Compound Then Spells R I SpellsAll (λ v. Rs) SpellsAll (IsThen R Rs)
part_and_rest {V} R I Rs = record {
  joined = λ t ts v p q r i s a b. ((t, ts, refl, r, s), (p, q, a, b, refl));
  parted = λ z r a s. let k : SpellsAll (Then a.0 a.1) r = rw a.2 at s in
      (a.0, a.1, k.0, k.1, sym a.2, a.3, k.2, k.3, k.4, λ v i. a.4);
}

-- K holds of parts that were read; they have no other value.
abbrev pub AllAre : (Trees → Type 0) → Trees → Unit {0} → Type 0
AllAre K ts u = K ts

-- Parts that weren't read have no value.
abbrev pub NoneIs : Trees → Unit {0} → Type 0
NoneIs ts u = ⊥

module _ {S : Type 0} {left : S → Left} {able : S → ℕ → Type 0}
    {may_leave : S → S → Type 0} (laws : Laws left able may_leave) where
  -- If a part was read and then those after it, all were read.
  pub and_part : {V : Type 0} {R : Tree → Type 0} {I : Tree → V → Type 0} {G : Error → Type 0}
      {Rs K : Trees → Type 0} {H : Error → Type 0} {old mid new : S} {v : V} →
      ReadsFrom Spells R I G left able may_leave old (Ok v) mid →
      ReadsFrom SpellsAll Rs (AllAre K) H left able may_leave mid (Ok tt) new →
      ReadsFrom SpellsAll (IsThen R Rs) (AllAre (IsThen (λ t. I t v) K)) (either G H) left able
      may_leave old (Ok tt) new
  and_part {R = R} {I = I} {Rs = Rs} r s =
      both_read laws (part_and_rest R I Rs) (λ t ts i j. (t, ts, refl, i, j)) r s

  -- If a part was read and reading those after it fails, reading all fails with that error.
  pub and_fails : {V : Type 0} {R : Tree → Type 0} {I : Tree → V → Type 0} {G : Error → Type 0}
      {Rs : Trees → Type 0} {H : Error → Type 0} {old mid new : S} {v : V} {e : Error} →
      ReadsFrom Spells R I G left able may_leave old (Ok v) mid →
      ReadsFrom SpellsAll Rs NoneIs H left able may_leave mid (refusal (Unit {0}) e) new →
      ReadsFrom SpellsAll (IsThen R Rs) NoneIs (either G H) left able may_leave old
      (refusal (Unit {0}) e) new
  and_fails {R = R} {I = I} {Rs = Rs} r s = second_refused laws (part_and_rest R I Rs) (λ x. inr) r s

  -- If reading the first part fails, reading all fails with that error.
  pub stops : {V : Type 0} {R : Tree → Type 0} {I : Tree → V → Type 0} {G : Error → Type 0}
      {Rs : Trees → Type 0} {H : Error → Type 0} {old new : S} {e : Error} →
      ReadsFrom Spells R I G left able may_leave old (refusal V e) new →
      ReadsFrom SpellsAll (IsThen R Rs) NoneIs (either G H) left able may_leave old
      (refusal (Unit {0}) e) new
  stops {R = R} {I = I} {Rs = Rs} r = first_refused laws (part_and_rest R I Rs) (λ x. inl) r

  -- If no part is left, all were read and nothing is taken.
  pub no_more : {s : S} → ReadsFrom SpellsAll IsEnd (AllAre IsEnd) never left able may_leave s (Ok tt) s
  no_more {s} = record {
    gives = record {
      thing = NoTrees;
      front = [];
      is_read = refl;
      is_spelled = refl;
      has = refl;
      taken = nothing_taken s;
    };
    accepts = λ ts p a b c. (a, let k : SpellsAll NoTrees p = rw a at b in rw k (nothing_taken s));
    leaves = laws.itself s;
    named_error = tt;
  }

  -- If all parts of a tuple or a struct were read, it was read.
  pub struct_read : {A : Type 0} {value : Tree → A → Type 0} {Rs K : Trees → Type 0} {G : Error → Type 0}
      {old new : S} {a : A} → ((t : Tree) → IsGroup K t → value t a) →
      ReadsFrom SpellsAll Rs (AllAre K) G left able may_leave old (Ok tt) new →
      ReadsFrom Spells (IsGroup Rs) value G left able may_leave old (Ok a) new
  struct_read has r = let g = r.gives in record {
    gives = record {
      thing = Group g.thing;
      front = g.front;
      is_read = (g.thing, refl, g.is_read);
      is_spelled = g.is_spelled;
      has = has (Group g.thing) (g.thing, refl, g.has);
      taken = g.taken;
    };
    accepts = λ t p a b c. let k = r.accepts a.0 p a.2 (rw a.1 at b) c in
        (has t (a.0, a.1, k.0), k.1);
    leaves = r.leaves;
    named_error = tt;
  }

  -- If reading the parts of a tuple or a struct fails, reading it fails with the error that `?`
  -- passes on.
  pub struct_fails : {A : Type 0} {value : Tree → A → Type 0} {Rs : Trees → Type 0} {G : Error → Type 0}
      {old new : S} {r : Result A Error} {e : Error} → IsErrAnd r (λ x. x ≡ e) →
      ReadsFrom SpellsAll Rs NoneIs G left able may_leave old (refusal (Unit {0}) e) new →
      ReadsFrom Spells (IsGroup Rs) value G left able may_leave old r new
  struct_fails {A} {r = r} {e = e} h s = rw (is_refusal r e h) (record {
    gives = tt;
    accepts = λ t p a b c. s.accepts a.0 p a.2 (rw a.1 at b) c;
    leaves = s.leaves;
    named_error = s.named_error;
  })

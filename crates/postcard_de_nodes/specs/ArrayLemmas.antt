-- Reading a given number of trees, as one array.
use Rattle.std.proofs.Common.{ℕ, List, Ok, refl}
use Rattle.postcard_wire.specs.declared.error.Error.{Error}
use Rattle.postcard_wire.specs.Tree.{Tree, Group}
use Rattle.postcard_wire.specs.Spelling.{Spells, SpellsAll}
use Rattle.postcard_wire.specs.Reading.{IsGroup, IsArray}
use Rattle.postcard_shape.specs.Lists.{EachIs, AreRead}
use Rattle.postcard_de_flavors.specs.Source.{Left}
use Rattle.postcard_de_nodes.specs.Reads.{ReadsFrom}
use Rattle.postcard_de_nodes.specs.ReadLemmas.{refusal}

module _ {S V : Type 0} {left : S → Left} {able : S → ℕ → Type 0}
    {may_leave : S → S → Type 0} {R : Tree → Type 0}
    {I : Tree → V → Type 0} {H : Error → Type 0} where
  -- If all elements of an array were read, the array was read.
  pub array_read : {n : ℕ} {old new : S} {vs : List V} →
      ReadsFrom SpellsAll (AreRead n R) (EachIs I) H left able may_leave old (Ok vs) new →
      ReadsFrom Spells (IsArray n R) (λ t v. IsGroup (λ ts. EachIs I ts v) t) H left able
      may_leave old (Ok vs) new
  array_read r = let g = r.gives in record {
    gives = record {
      thing = Group g.thing;
      front = g.front;
      is_read = (g.thing, refl, g.is_read.0, g.is_read.1);
      is_spelled = g.is_spelled;
      has = (g.thing, refl, g.has);
      taken = g.taken;
    };
    accepts = λ t p a b c. let k = r.accepts a.0 p (a.2, a.3) (rw a.1 at b) c in
        ((a.0, a.1, k.0), k.1);
    leaves = r.leaves;
    named_error = tt;
  }

  -- If reading the elements fails, reading the array fails with that error.
  pub array_refused : {n : ℕ} {old new : S} {e : Error} →
      ReadsFrom SpellsAll (AreRead n R) (EachIs I) H left able may_leave old (refusal (List V) e)
      new → ReadsFrom Spells (IsArray n R) (λ t v. IsGroup (λ ts. EachIs I ts v) t) H left able
      may_leave old (refusal (List V) e) new
  array_refused r = record {
    gives = tt;
    accepts = λ t p a b c. r.accepts a.0 p (a.2, a.3) (rw a.1 at b) c;
    leaves = r.leaves;
    named_error = r.named_error;
  }

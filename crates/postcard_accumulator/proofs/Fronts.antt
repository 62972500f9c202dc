-- The value of a frame: there is at most one, except for values that look alike, and a frame is
-- refused only if there is none.
use Rattle.std.proofs.Common.{◌≡◌, List, ℕ, ◌++◌, subst}
use Rattle.postcard_wire.specs.declared.error.Error.{Error}
use Rattle.postcard_wire.specs.declared.error.Error.TheVariants.{OutOfMemory}
use Rattle.postcard_wire.specs.Tree.{Tree}
use Rattle.postcard_wire.specs.Spelling.{Spells}
use Rattle.postcard_cobs.specs.Groups.{Groups}
use Rattle.postcard_cobs.proofs.Frames.{data_is_one}
use Rattle.postcard_frame.specs.Frame.{HasNoData}
use Rattle.postcard_de.specs.Front.{ReadsFront}
use Rattle.postcard_de.proofs.Alike.{fronts_alike}
use Rattle.postcard_shape.specs.Shape.{Shape, Grows}
use Rattle.postcard_accumulator.specs.Values.{IsValueOf, IsRefused}

-- Two values of one frame look alike.
pub values_alike : {V : Type 0} (shape : Shape V) (f : List ℕ) (v w : V) → IsValueOf shape f v
    → IsValueOf shape f w → shape.same v w
values_alike shape f v w a b =
    let one = data_is_one f a.content b.content a.decodes b.decodes in
    let first = subst (λ (d : List ℕ). ReadsFront shape.reads shape.value d v a.rest) one
    a.is_read in
    (fronts_alike shape.delimited shape.one_value first b.is_read).0

-- A frame that has no data has no value.
pub refused_none : {T : Type 0} (shape : Shape T) (f : List ℕ) → HasNoData f → IsRefused shape f
refused_none shape f none = λ still v o. none o.content o.decodes

-- If a call fails that succeeds for every front of the data that is read, unless memory runs out,
-- then a frame of that data has no value.
pub refused_data : {T : Type 0} (shape : Shape T) (d : List ℕ) (e : Error) →
    ((t : Tree) (front rest : List ℕ) → shape.reads t → Spells t front → d ≡ front ++ rest
    → (e ≡ OutOfMemory) × Grows shape) → (f : List ℕ) → Groups f d → IsRefused shape f
refused_data {T = T} shape d e accepts f g =
    λ still v o. none still v o.rest
    (subst (λ (x : List ℕ). ReadsFront shape.reads shape.value x v o.rest)
    (data_is_one f o.content d o.decodes g) o.is_read) where
      none : ¬ Grows shape → (v : T) (rest : List ℕ)
          → ReadsFront shape.reads shape.value d v rest → ⊥
      none still v rest r = still (accepts r.tree r.front rest r.is_read r.is_spelled r.joins).1

-- What was read from the front of some data, as a value of a type or as one that is seen as it, is
-- the value of a frame of that data.
pub value_read : {T U : Type 0} (shape : Shape T) (see : U → T) (d rest : List ℕ) (u : U)
    → ReadsFront shape.reads (λ t w. shape.value t (see w)) d u rest
    → (f : List ℕ) → Groups f d → IsValueOf shape f (see u)
value_read shape see d rest u r f g = record {
  content = d;
  decodes = g;
  rest = rest;
  is_read = record {
    tree = r.tree;
    front = r.front;
    is_read = r.is_read;
    is_spelled = r.is_spelled;
    has = r.has;
    joins = r.joins;
  };
}

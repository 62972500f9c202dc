-- What a type says of its values, once for both directions: the tree that each is written as, the
-- trees that are read, and their values. It says when two values look alike, and has the laws.
use Rattle.std.specs.Prelude.{◌⊎◌, ⊤}
use Rattle.postcard_wire.specs.Reading.{IsDelimited, ReadsWellFormed}
use Rattle.postcard_wire.specs.Tree.{Tree}
use Rattle.postcard_wire.specs.declared.error.Error.{Error}
use Rattle.postcard_wire.specs.declared.error.Error.TheVariants.{OutOfMemory}

-- Any two values of one tree look alike.
abbrev pub HasOne : {V : Type 0} → (Tree → V → Type 0) → (V → V → Type 0) → Type 0
HasOne {V} value same = (t : Tree) (v w : V) → value t v → value t w → same v w

-- The tree of a value that fits is one that is read, and the value is one of that tree. In such a law of
-- a combinator, those of its parts are arguments of a lemma, each once. Written out, a law that has
-- another twice doubles with each part and each type inside.
abbrev pub ComesBack : {V : Type 0} → (V → Tree) → (Tree → Type 0) → (Tree → V → Type 0) → (V → Type 0) → Type 0
ComesBack {V} tree reads value fits = (v : V) → fits v → reads (tree v) × value (tree v) v

-- The shape of a type: all that a contract says of its values on the wire.
pub record Shape (V : Type 0) : Type 1 where
  -- The tree that a value is written as.
  pub tree : V → Tree
  -- The value may refuse itself when it is written, with this error, whatever it is written to.
  pub refusal : V → Error → Type 0
  -- A value is written as the text that it prints, in which a flavor's refusal is answered with
  -- `CollectStrError`.
  pub text : Type 0
  -- The trees that are read.
  pub reads : Tree → Type 0
  -- The value is one of the tree.
  pub value : Tree → V → Type 0
  -- Two values look alike to contracts.
  pub same : V → V → Type 0
  -- The errors by which reading may fail beside those of its nodes.
  pub other : Error → Type 0
  -- What holds of every value that a program has: numbers in their range, texts that are UTF-8,
  -- lengths below 2 ^ 64, maps in order.
  pub fits : V → Type 0
  -- The encodings are prefix-free: at most one front of some bytes spells one of the trees.
  pub delimited : IsDelimited reads
  -- Every tree that is read is well formed.
  pub well_formed : ReadsWellFormed reads
  -- All values of one tree look alike.
  pub one_value : HasOne value same
  -- What was written is read again.
  pub again : ComesBack tree reads value fits

-- No error: the refusal of a value that never refuses itself.
abbrev pub never : Error → Type 0
never e = ⊥

-- The errors of either set.
abbrev pub either : (Error → Type 0) → (Error → Type 0) → Error → Type 0
either these those e = these e ⊎ those e

-- The errors of the set, and `OutOfMemory`.
abbrev pub or_memory : (Error → Type 0) → Error → Type 0
or_memory errors OutOfMemory = ⊤
or_memory errors e = errors e

-- `OutOfMemory` alone.
abbrev pub memory : Error → Type 0
memory = or_memory never

-- Reading may ask for memory, and fail with `OutOfMemory`.
abbrev pub Grows : {V : Type 0} → Shape V → Type 0
Grows s = s.other OutOfMemory

-- None of these errors is one.
pub record IsEmpty (errors : Error → Type 0) : Type 0 where
  pub has_none : (e : Error) → errors e → ⊥

-- The value doesn't refuse itself, by any error.
abbrev pub IsWilling : {V : Type 0} → Shape V → V → Type 0
IsWilling s v = IsEmpty (s.refusal v)

-- The shape of a type whose values are seen as those of the shape s by `see`.
abbrev pub via : {V W : Type 0} → (V → W) → Shape W → Shape V
via see s = record {
  tree = λ v. s.tree (see v);
  refusal = λ v. s.refusal (see v);
  text = s.text;
  reads = s.reads;
  value = λ t v. s.value t (see v);
  same = λ v w. s.same (see v) (see w);
  other = s.other;
  fits = λ v. s.fits (see v);
  delimited = s.delimited;
  well_formed = s.well_formed;
  one_value = λ t v w. s.one_value t (see v) (see w);
  again = λ v. s.again (see v);
}

-- The shape s, for a type that asks for memory when it is read.
abbrev pub growing : {V : Type 0} → Shape V → Shape V
growing s = record {
  tree = s.tree;
  refusal = s.refusal;
  text = s.text;
  reads = s.reads;
  value = s.value;
  same = s.same;
  other = or_memory s.other;
  fits = s.fits;
  delimited = s.delimited;
  well_formed = s.well_formed;
  one_value = s.one_value;
  again = s.again;
}

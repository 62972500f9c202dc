-- The shapes of types whose values may be refused when they are written.
use Rattle.std.specs.Prelude.{◌≡◌, ⊤}
use Rattle.postcard_wire.specs.declared.error.Error.{Error}
use Rattle.postcard_wire.specs.declared.error.Error.TheVariants.{CollectStrError}
use Rattle.postcard_shape.specs.Shape.{Shape}

-- The shape s, for a type whose values may refuse themselves: a value v may be refused with the
-- error e if `refusal v e` holds.
abbrev pub refusing : {V : Type 0} → (V → Error → Type 0) → Shape V → Shape V
refusing refusal s = record {
  tree = s.tree;
  refusal = refusal;
  text = s.text;
  reads = s.reads;
  value = s.value;
  same = s.same;
  other = s.other;
  fits = s.fits;
  delimited = s.delimited;
  well_formed = s.well_formed;
  one_value = s.one_value;
  again = s.again;
}

-- The shape s, for a type that is written as the text that it prints: printing may fail by itself,
-- and any value may then be refused with `CollectStrError`.
abbrev pub printed : {V : Type 0} → Shape V → Shape V
printed s = record {
  tree = s.tree;
  refusal = λ v e. e ≡ CollectStrError;
  text = ⊤;
  reads = s.reads;
  value = s.value;
  same = s.same;
  other = s.other;
  fits = s.fits;
  delimited = s.delimited;
  well_formed = s.well_formed;
  one_value = s.one_value;
  again = s.again;
}

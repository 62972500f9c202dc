-- The shape of the values of a type that is known only at run time.
use Rattle.std.specs.Prelude.{◌≡◌, refl}
use Rattle.std.proofs.Common.{sym, ◌∙◌}
use Rattle.postcard_shape.specs.Shape.{Shape, never}
use Rattle.postcard_schema.specs.Meaning.{MessageType, reads}
use Rattle.postcard_value.specs.Tree.{tree, IsTree}
use Rattle.postcard_value.specs.declared.value.Value.{Value}
use Rattle.postcard_value.specs.TypeLaws.{type_delimited, type_well_formed}

-- The shape of the values of a type: those whose tree is one of the type. Whether reading allocates is not part of it: the contract of a
-- call that reads says what happens if an allocation fails.
abbrev pub shape_of : MessageType → Shape Value
shape_of t = record {
  tree = tree;
  refusal = λ v. never;
  text = ⊥;
  reads = reads t;
  value = IsTree;
  same = λ v w. tree v ≡ tree w;
  other = never;
  fits = λ v. reads t (tree v);
  delimited = type_delimited t;
  well_formed = type_well_formed t;
  one_value = λ s v w p q. sym p ∙ q;
  again = λ v h. (h, refl);
}

-- The shape of a chain of fewer than n links, by recursion on n.
use Rattle.std.specs.Prelude.{◌≡◌, ℕ, zero, suc, ⊤}
use Rattle.std.proofs.Common.{refl, inl}
use Rattle.postcard_wire.specs.Tree.{Absent}
use Rattle.postcard_wire.specs.declared.error.Error.TheVariants.{SerdeSerCustom}
use Rattle.postcard.specs.Lemmas.{none_delimited}
use Rattle.postcard_shape.specs.Shape.{Shape, via, growing, never}
use Rattle.postcard_shape.specs.Leaves.{num}
use Rattle.postcard_shape.specs.Rows.{none, then, group}
use Rattle.postcard_shape.specs.Cases.{no_case, case, variants}
use Rattle.postcard_shape.specs.declared.cases.Case.{Case}
use Rattle.postcard_shape.specs.declared.cases.Case.TheVariants.{This, Next}
use Rattle.postcard_shape.specs.declared.cases.NoCase.{NoCase}
use Rattle.example_types.specs.declared.chain.Chain.{Chain, End, Link'}

-- The variants of a chain in a row: nothing, or a number and a chain.
abbrev pub chain_cases : Chain → Case (Unit {0}) (Case (ℕ × (Chain × Unit {0})) NoCase)
chain_cases End = This tt
chain_cases (Link' n p c) = Next (This (n, (c, tt)))

-- The shape without values: each value refuses itself with `SerdeSerCustom`, and no tree is read.
abbrev pub too_long : {V : Type 0} → Shape V
too_long {V} = record {
  tree = λ v. Absent;
  refusal = λ v e. e ≡ SerdeSerCustom;
  text = ⊥;
  reads = λ t. ⊥;
  value = λ t v. ⊥;
  same = λ v w. ⊤;
  other = never;
  fits = λ v. ⊥;
  delimited = none_delimited;
  well_formed = λ t r. absurd r;
  one_value = λ t v w h k. absurd h;
  again = λ v f. absurd f;
}

-- The shape of a chain of fewer than n links.
abbrev pub chain_shape : ℕ → Shape Chain
chain_shape zero = too_long
chain_shape (suc n) = growing (via chain_cases (variants (case (group none)
    (case (group (then (num 16 (inl refl)) (then (chain_shape n) none))) no_case))))

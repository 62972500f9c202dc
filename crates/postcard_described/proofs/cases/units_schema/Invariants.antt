-- Each variant so far is the unit.
use Rattle.std.proofs.Common.{◌≡◌, map}
use Rattle.postcard_described.specs.{contents, type_of, units}
use Rattle.postcard_described.proofs.cases.units_schema.Given as goal

abbrev pub invariant-loop-name : goal.invariant-loop-name
invariant-loop-name l = map type_of (contents l.variants.items) ≡ units l.name-index

-- The best example so far is an example of the two types.
use Rattle.std.proofs.Common.{IfSome}
use Rattle.postcard_schema.specs.Meaning.{type_of}
use Rattle.postcard_compat.specs.Examples.{IsExample}
use Rattle.postcard_compat.proofs.comparison.search.Given as goal

abbrev pub invariant-loop-index : goal.invariant-loop-index
invariant-loop-index l = IfSome l.best (IsExample (type_of l.old) (type_of l.new))

-- If the parts from the loop's place on serve the first of the old parts there, the whole row does.
use Rattle.std.proofs.Common.{drop}
use Rattle.postcard_schema.specs.Meaning.{types_of}
use Rattle.postcard_compat.specs.Parts.{parts_of}
use Rattle.postcard_compat.specs.Serving.{AllServeFront}
use Rattle.postcard_compat.proofs.front.parts_begin.Given as goal

abbrev pub invariant-loop-index : goal.invariant-loop-index
invariant-loop-index l =
    let ns = parts_of l.new in
    let os = parts_of l.old in
    AllServeFront (types_of (drop l.index ns)) (types_of (drop l.index os)) → AllServeFront (types_of ns) (types_of os)

-- If the parts from the loop's place on serve, all parts serve.
use Rattle.std.proofs.Common.{drop}
use Rattle.postcard_schema.specs.Meaning.{contents, types_of}
use Rattle.postcard_compat.specs.Parts.{parts_of}
use Rattle.postcard_compat.specs.Serving.{VariantsServe}
use Rattle.postcard_compat.proofs.+serves.Given as goal

abbrev pub invariant-parts_serve-loop-index : goal.invariant-parts_serve-loop-index
invariant-parts_serve-loop-index l =
    let ns = parts_of l.new in
    let os = l.part-items in
    VariantsServe (types_of (drop l.index ns)) (types_of (drop l.index os)) → VariantsServe (types_of ns) (types_of os)

abbrev pub invariant-named_serve-loop-index : goal.invariant-named_serve-loop-index
invariant-named_serve-loop-index l =
    let ns = parts_of l.new in
    let os = contents l.part-items in
    VariantsServe (types_of (drop l.index ns)) (types_of (drop l.index os)) → VariantsServe (types_of ns) (types_of os)

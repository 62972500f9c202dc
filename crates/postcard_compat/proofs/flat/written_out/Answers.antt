-- Each turn appends the parts of one element.
use Rattle.std.proofs.Common.{◌≡◌, ◌∷◌, [], replicate, sym, subst, arith}
use Rattle.postcard_schema.specs.Meaning.{array, group, row_of}
use Rattle.postcard_compat.specs.Parts.{part_types}
use Rattle.postcard_compat.specs.Serving.{SameRows}
use Rattle.postcard_compat.proofs.Alike.{no_rows_same}
use Rattle.postcard_compat.proofs.Splices.{written_out_same}
use Rattle.postcard_compat.proofs.Alike.{rows_after}
use Rattle.postcard_compat.proofs.Flattening.{element_more}
use Rattle.postcard_compat.proofs.flat.written_out.Goals as goal

pub loop-index-init : goal.loop-index-init
loop-index-init c = subst (λ ns. SameRows (part_types ns) []) (sym c.new-row.ensures.items) no_rows_same

pub loop-index-preserved : goal.loop-index-preserved
loop-index-preserved c =
    element_more (part_types c.loop-index.row.items) (part_types c.args.element.now.items) (part_types c.append.new.row.items) c.loop-index.index-counter
    c.loop-index.invariant c.in_ok-append.ensures

pub returns : goal.returns
returns c =
    let x = group (row_of (part_types c.args.element.now.items)) in
    let row = part_types c.loop-index.row.items in
    let all : c.loop-index.index-counter ≡ c.args.count = omega arith in
    rows_after row (replicate c.args.count x) (array c.args.count x ∷ []) (subst (λ n. SameRows row (replicate n x)) all c.loop-index.invariant)
    (written_out_same x c.args.count)

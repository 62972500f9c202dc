use Rattle.std.proofs.Common.{◌≡◌, ◌<◌, ◌+◌, ◌≤◌, length, map, ap, ◌∙◌, arith}
use Rattle.std.proofs.lemmas.List.{length-map}
use Rattle.postcard_schema.specs.Views.{view}
use Rattle.postcard_schema_message.specs.Nodes.{arity, levels, node_view}
use Rattle.postcard_schema_message.specs.Building.{forest}
use Rattle.postcard_schema_message.proofs.Built.{cannot_make, cannot_take, roots, too_deep, unbuilt}
use Rattle.postcard_schema_message.proofs.build.build.Goals as goal

pub returns-in_err-parts : goal.returns-in_err-parts
returns-in_err-parts c =
    unbuilt _ _ _ _ _ c.from_residual.ensures.1 (cannot_take _ (node_view c.args.node) (forest c.args.row.now.items) c.arity.result c.arity.ensures c.in_err-parts.ensures.refused)

pub returns-then-depth-gt-MAX_DEPTH : goal.returns-then-depth-gt-MAX_DEPTH
returns-then-depth-gt-MAX_DEPTH c =
    let taken = c.in_ok-parts.ensures.taken in
    let p = c.in_ok-parts.parts in
    let ss = p.schemas.items in
    let long : length (map view ss) ≡ arity (node_view c.args.node) = length-map ss view ∙ taken.2 ∙ c.arity.ensures in
    let high : 384 < p.depth + levels (node_view c.args.node) = omega (arith, c.if-depth-gt-MAX_DEPTH.true, c.levels.ensures.levels) in
    record {
      built = tt;
      same = tt;
      kept = tt;
      refused = too_deep (node_view c.args.node) (map view ss) (forest c.take_parts.new.row.items) (forest c.args.row.now.items) p.depth long taken.1 taken.0.deep high;
    }

pub returns-in_err-schema : goal.returns-in_err-schema
returns-in_err-schema c =
    let taken = c.in_ok-parts.ensures.taken in
    let ss = c.in_ok-parts.parts.schemas.items in
    let long : length (map view ss) ≡ arity (node_view c.args.node) = length-map ss view ∙ taken.2 ∙ c.arity.ensures in
    unbuilt _ _ _ _ _ c.from_residual-in_err-schema.ensures.1 (cannot_make _ (node_view c.args.node) (map view ss) (forest c.take_parts.new.row.items) (forest c.args.row.now.items) long taken.1 c.in_err-schema.ensures.refused)

pub returns : goal.returns
returns c =
    let taken = c.in_ok-parts.ensures.taken in
    let p = c.in_ok-parts.parts in
    let long : length (map view p.schemas.items) ≡ arity (node_view c.args.node) = length-map p.schemas.items view ∙ taken.2 ∙ c.arity.ensures in
    let low : p.depth + c.levels.result ≤ 384 = omega (arith, c.if-depth-gt-MAX_DEPTH.false) in
    roots (node_view c.args.node) c.args.row.now.items c.take_parts.new.row.items p c.in_ok-schema.schema (p.depth + c.levels.result) long taken.1 taken.0
    c.in_ok-parts.ensures.kept (ap (λ m. p.depth + m) c.levels.ensures.levels) low c.in_ok-schema.ensures

use Rattle.std.proofs.Common.{◌≡◌, ◌<◌, [], length, arith}
use Rattle.std.proofs.lemmas.List.{nil_from_length}
use Rattle.postcard_schema_message.specs.declared.error.Problem.TheVariants.{OutOfMemory}
use Rattle.postcard_schema_message.specs.Nodes.{node_view, node_views, preorder_all}
use Rattle.postcard_schema_message.specs.Bounded.{Refuses}
use Rattle.postcard_schema_message.specs.Building.{forest}
use Rattle.postcard_schema_message.proofs.Built.{built_push}
use Rattle.postcard_schema_message.proofs.Refused.{only_memory, refused_at}
use Rattle.postcard_schema_message.proofs.Whole.{at_err, last_full, last_low, of_none, of_several, some_items, whole_at, whole_end, whole_more}
use Rattle.postcard_schema_message.proofs.build.schema_of.Goals as goal

pub returns-in_err-built-clause-refused : goal.returns-in_err-built-clause-refused
returns-in_err-built-clause-refused c =
    let all = node_views c.args.nodes.items in
    let at = whole_at c.loop-node.nodes.items c.pop.new.self.items c.in-Some.node (preorder_all (forest c.loop-node.row.items)) all c.in-Some.ensures.items c.loop-node.invariant.whole in
    let e = c.in_err-built.field-0.0 in
    at_err (λ p. Refuses p all) c.from_residual.result e c.from_residual.ensures.1
    (refused_at e all (node_views c.pop.new.self.items) (node_view c.in-Some.node) (forest c.loop-node.row.items) at c.in_err-built.ensures.refused)

pub returns-in_err-built-clause-complete : goal.returns-in_err-built-clause-complete
returns-in_err-built-clause-complete c = λ v same bounded.
    let all = node_views c.args.nodes.items in
    let at = whole_at c.loop-node.nodes.items c.pop.new.self.items c.in-Some.node (preorder_all (forest c.loop-node.row.items)) all c.in-Some.ensures.items c.loop-node.invariant.whole in
    let e = c.in_err-built.field-0.0 in
    at_err (λ p. p ≡ OutOfMemory) c.from_residual.result e c.from_residual.ensures.1 (only_memory e all
    (refused_at e all (node_views c.pop.new.self.items) (node_view c.in-Some.node) (forest c.loop-node.row.items) at c.in_err-built.ensures.refused) v same bounded)

pub loop-node-preserved : goal.loop-node-preserved
loop-node-preserved c = record {
  whole = whole_more c.loop-node.nodes.items c.pop.new.self.items c.in-Some.node c.loop-node.row.items c.build.new.row.items c.push.new.items.items c.in_ok-built.built
      (node_views c.args.nodes.items) c.in-Some.ensures.items c.in_ok-built.ensures.same c.in_ok-push.ensures.added c.loop-node.invariant.whole;
  built = rw c.in_ok-push.ensures.added (built_push c.build.new.row.items c.in_ok-built.built c.in_ok-built.ensures.kept c.in_ok-built.ensures.built);
}

pub returns-in_default-pop-clause-refused : goal.returns-in_default-pop-clause-refused
returns-in_default-pop-clause-refused c =
    let none : c.loop-node.nodes.items ≡ [] = nil_from_length _ (omega (arith, c.loop-node.nodes.ok.0, c.in_default.ensures.cases.0)) in
    let empty : c.loop-node.row.items ≡ [] = nil_from_length _ (omega (arith, c.loop-node.row.ok.0, c.in_default-pop.ensures.cases.0)) in
    of_none (node_views c.args.nodes.items) c.loop-node.row.items empty (whole_end c.loop-node.nodes.items _ _ none c.loop-node.invariant.whole)

pub returns-in_default-pop-clause-complete : goal.returns-in_default-pop-clause-complete
returns-in_default-pop-clause-complete c = λ v same bounded.
    let none : c.loop-node.nodes.items ≡ [] = nil_from_length _ (omega (arith, c.loop-node.nodes.ok.0, c.in_default.ensures.cases.0)) in
    let empty : c.loop-node.row.items ≡ [] = nil_from_length _ (omega (arith, c.loop-node.row.ok.0, c.in_default-pop.ensures.cases.0)) in
    absurd (of_none (node_views c.args.nodes.items) c.loop-node.row.items empty (whole_end c.loop-node.nodes.items _ _ none c.loop-node.invariant.whole) v same)

pub returns-then-not-is_empty-clause-refused : goal.returns-then-not-is_empty-clause-refused
returns-then-not-is_empty-clause-refused c =
    let none : c.loop-node.nodes.items ≡ [] = nil_from_length _ (omega (arith, c.loop-node.nodes.ok.0, c.in_default.ensures.cases.0)) in
    let rest = c.pop-2.new.self in
    let some : 0 < length rest.items = omega (arith, some_items rest.len c.if-not-is_empty.ensures, rest.ok.0) in
    of_several (node_views c.args.nodes.items) c.loop-node.row.items rest.items c.in-Some-pop.built c.in-Some-pop.ensures.items some
    (whole_end c.loop-node.nodes.items _ _ none c.loop-node.invariant.whole)

pub returns-then-not-is_empty-clause-complete : goal.returns-then-not-is_empty-clause-complete
returns-then-not-is_empty-clause-complete c = λ v same bounded.
    let none : c.loop-node.nodes.items ≡ [] = nil_from_length _ (omega (arith, c.loop-node.nodes.ok.0, c.in_default.ensures.cases.0)) in
    let rest = c.pop-2.new.self in
    let some : 0 < length rest.items = omega (arith, some_items rest.len c.if-not-is_empty.ensures, rest.ok.0) in
    absurd (of_several (node_views c.args.nodes.items) c.loop-node.row.items rest.items c.in-Some-pop.built c.in-Some-pop.ensures.items some
    (whole_end c.loop-node.nodes.items _ _ none c.loop-node.invariant.whole) v same)

pub returns-clause-elements_have_bytes : goal.returns-clause-elements_have_bytes
returns-clause-elements_have_bytes c =
    last_full c.loop-node.row.items c.pop-2.new.self.items c.in-Some-pop.built c.in-Some-pop.ensures.items c.loop-node.invariant.built

pub returns-clause-deep : goal.returns-clause-deep
returns-clause-deep c =
    last_low c.loop-node.row.items c.pop-2.new.self.items c.in-Some-pop.built c.in-Some-pop.ensures.items c.loop-node.invariant.built

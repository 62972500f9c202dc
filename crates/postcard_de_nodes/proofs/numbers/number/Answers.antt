use Rattle.std.proofs.Common.{[], ◌∷◌, ◌++◌, arith, length-append}
use Rattle.postcard_de_nodes.specs.NodeLemmas.{node_passes_on}
use Rattle.postcard_de_nodes.specs.TakeLemmas.{both_taken}
use Rattle.postcard_de_nodes.proofs.VarintLoop.{begun, number_excludes, number_read, number_ends}
use Rattle.postcard_de_nodes.proofs.VarintLoop.{number_bad}
use Rattle.postcard_de_nodes.proofs.numbers.number.Goals as goal

pub loop-place-init : goal.loop-place-init
loop-place-init g c =
    let none = c.new-digits.ensures c.args.bits c.requires in
    (begun g.F.Flavor.lawful c.args.bits c.new-digits.result c.args.flavor.now none, none.count)

pub returns-in_err-byte : goal.returns-in_err-byte
returns-in_err-byte g c =
    let laws = g.F.Flavor.lawful in
    let so = c.loop-place.invariant.0 in
    node_passes_on g.F.Flavor c.from_residual.ensures.1 (number_excludes c.args.bits)
    (number_ends laws so (λ a. let bad = c.in_err-byte.ensures.accepts a in cc)
    c.in_err-byte.ensures.refuses_by_unexpected_end) (laws.joins _ _ _ so.leaves c.in_err-byte.ensures.leaves)

pub returns-in_err-n : goal.returns-in_err-n
returns-in_err-n g c =
    let laws = g.F.Flavor.lawful in
    let so = c.loop-place.invariant.0 in
    node_passes_on g.F.Flavor c.from_residual-in_err-n.ensures.1 (number_excludes c.args.bits)
    (number_bad laws so c.in_ok-byte.ensures.gives (c.in_err-n.ensures so.front so.read))
    (laws.joins _ _ _ so.leaves c.in_ok-byte.ensures.leaves)

pub returns-in-Some : goal.returns-in-Some
returns-in-Some g c =
    let laws = g.F.Flavor.lawful in
    let so = c.loop-place.invariant.0 in
    let k = rw c.in-Some.is at (c.in_ok-n.ensures so.front so.read) in
    record {
      reads = number_read laws so c.in_ok-byte.ensures.gives c.in_ok-byte.ensures.leaves k.0 k.1;
      refused = tt;
    }

pub loop-place-preserved : goal.loop-place-preserved
loop-place-preserved g c =
    let so = c.loop-place.invariant.0 in
    let front = so.front ++ c.in_ok-byte.byte ∷ [] in
    let pushed = rw c.in_default.is at (c.in_ok-n.ensures so.front so.read) in (
      record {
        front = front;
        read = pushed;
        taken = both_taken so.taken c.in_ok-byte.ensures.gives;
        leaves = g.F.Flavor.lawful.joins _ _ _ so.leaves c.in_ok-byte.ensures.leaves;
      },
      omega (arith, pushed.count, so.read.count, c.loop-place.invariant.1, length-append so.front (c.in_ok-byte.byte ∷ [])),
    )

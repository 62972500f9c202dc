-- The first digit, and then the others, added in 64 bits.
use Rattle.std.proofs.Common.{◌<◌, ◌^◌, refl, arith}
use Rattle.postcard_de_nodes.specs.NodeLemmas.{node_passes_on, node_refused}
use Rattle.postcard_de_nodes.proofs.CountLoop.{none, one_digit, fits_64, tenth_bad, sum_below}
use Rattle.postcard_de_nodes.proofs.CountLoop.{last_added, added}
use Rattle.postcard_de_nodes.proofs.VarintLoop.{begun, goes_on, number_excludes, number_read}
use Rattle.postcard_de_nodes.proofs.VarintLoop.{first_reads, number_ends, number_bad}
use Rattle.postcard_de_nodes.proofs.numbers.count.Goals as goal

pub returns-in_err-first : goal.returns-in_err-first
returns-in_err-first g c =
    let laws = g.F.Flavor.lawful in
    let so = begun laws 64 _ c.args.flavor.now none in
    node_passes_on g.F.Flavor c.from_residual.ensures.1 (number_excludes 64)
    (number_ends laws so (λ a. let bad = c.in_err-first.ensures.accepts a in cc)
    c.in_err-first.ensures.refuses_by_unexpected_end) c.in_err-first.ensures.leaves

pub returns-then-first-lt128 : goal.returns-then-first-lt128
returns-then-first-lt128 g c =
    let first = c.in_ok-first in
    let low : first.first < 2 ^ 64 = omega (arith, c.if-first-lt128.true) in
    record {
      reads = first_reads g.F.Flavor.lawful first.ensures.gives first.ensures.leaves
          (one_digit first.first c.if-first-lt128.true) low;
      refused = tt;
    }

pub returns-in_err-byte : goal.returns-in_err-byte
returns-in_err-byte g c =
    let laws = g.F.Flavor.lawful in
    let so = c.loop-byte.invariant in
    node_passes_on g.F.Flavor c.from_residual-in_err-byte.ensures.1 (number_excludes 64)
    (number_ends laws so (λ a. let bad = c.in_err-byte.ensures.accepts a in cc)
    c.in_err-byte.ensures.refuses_by_unexpected_end) (laws.joins _ _ _ so.leaves c.in_err-byte.ensures.leaves)

pub returns-then-byte-gt-MAX_OF_LAST_BYTE_64 : goal.returns-then-byte-gt-MAX_OF_LAST_BYTE_64
returns-then-byte-gt-MAX_OF_LAST_BYTE_64 g c =
    let laws = g.F.Flavor.lawful in
    let so = c.loop-byte.invariant in
    let bad = tenth_bad so.read c.if-place-eq-LAST_PLACE_64.true c.if-byte-gt-MAX_OF_LAST_BYTE_64.true in
    node_refused g.F.Flavor (number_excludes 64)
    (number_bad laws so c.in_ok-byte.ensures.gives (refl, bad))
    (laws.joins _ _ _ so.leaves c.in_ok-byte.ensures.leaves)

pub overflow_add-value : goal.overflow_add-value
overflow_add-value g c =
    let so = c.loop-byte.invariant in
    let byte = c.in_ok-byte.byte in
    let few : c.loop-byte.place < 10 = omega (arith, so.read.count, so.read.fewer) in
    let fits = fits_64 c.loop-byte.place byte few c.else-place-eq-LAST_PLACE_64.either in
    record { fits = sum_below byte so.read c.from.ensures fits }

pub returns-then-byte-lt128 : goal.returns-then-byte-lt128
returns-then-byte-lt128 g c =
    let laws = g.F.Flavor.lawful in
    let so = c.loop-byte.invariant in
    let byte = c.in_ok-byte.byte in
    let few : c.loop-byte.place < 10 = omega (arith, so.read.count, so.read.fewer) in
    let fits = fits_64 c.loop-byte.place byte few c.else-place-eq-LAST_PLACE_64.either in
    let spelled = last_added byte so.read c.from.ensures fits c.if-byte-lt128.true in
    let low = sum_below byte so.read c.from.ensures fits in
    record {
      reads = number_read laws so c.in_ok-byte.ensures.gives c.in_ok-byte.ensures.leaves spelled low;
      refused = tt;
    }

pub loop-byte-preserved : goal.loop-byte-preserved
loop-byte-preserved g c =
    let laws = g.F.Flavor.lawful in
    let so = c.loop-byte.invariant in
    let byte = c.in_ok-byte.byte in
    let few : c.loop-byte.place < 10 = omega (arith, so.read.count, so.read.fewer) in
    let fits = fits_64 c.loop-byte.place byte few c.else-place-eq-LAST_PLACE_64.either in
    let pushed = added byte so.read c.from.ensures fits c.if-byte-lt128.false search in
    goes_on laws so c.in_ok-byte.ensures.gives c.in_ok-byte.ensures.leaves pushed

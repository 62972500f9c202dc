use Rattle.std.proofs.Common.{◌<◌, ◌≤◌, rules}
use Rattle.std.specs.Char.{IsScalar}
use Rattle.postcard_de_nodes.specs.NodeLemmas.{node_refused, node_passes_on}
use Rattle.postcard_de_nodes.proofs.CharLemmas.{char_excludes, char_length_refused, char_too_long}
use Rattle.postcard_de_nodes.proofs.CharLemmas.{char_ends, char_bad, char_read}
use Rattle.postcard_de_nodes.proofs.texts.character.Goals as goal

pub returns-in_err-length : goal.returns-in_err-length
returns-in_err-length g c =
    node_passes_on g.F.Flavor c.from_residual.ensures.1 char_excludes
    (char_length_refused g.F.Flavor.lawful c.in_err-length.ensures.refused)
    c.in_err-length.ensures.reads.leaves

pub returns-then-length-gt-LONGEST_CHAR : goal.returns-then-length-gt-LONGEST_CHAR
returns-then-length-gt-LONGEST_CHAR g c =
    let high : 4 < c.in_ok-length.length = search rules in
    node_refused g.F.Flavor char_excludes
    (char_too_long g.F.Flavor.lawful c.in_ok-length.ensures.reads high)
    c.in_ok-length.ensures.reads.leaves

pub returns-in_err-bytes : goal.returns-in_err-bytes
returns-in_err-bytes g c =
    let laws = g.F.Flavor.lawful in
    let few : c.in_ok-length.length ≤ 4 = search rules in
    let lent = c.try_take_n_temp.follows.holds-at-none in
    node_passes_on g.F.Flavor c.from_residual-in_err-bytes.ensures.1 char_excludes
    (char_ends laws c.in_ok-length.ensures.reads few
    (λ a. let bad = c.in_err-bytes.ensures.accepts a in cc) c.in_err-bytes.ensures.refuses_by_unexpected_end)
    (laws.joins _ _ _ c.in_ok-length.ensures.reads.leaves lent.1)

pub returns-in-Ok : goal.returns-in-Ok
returns-in-Ok g c =
    let few : c.in_ok-length.length ≤ 4 = search rules in
    let lent = c.try_take_n_temp.follows.holds-at-none in
    let gives = rw c.in_ok-bytes.was at lent.0 in
    let scalar : IsScalar c.in-Ok.c = search rules in
    record {
      reads =
          char_read g.F.Flavor.lawful c.in_ok-length.ensures.reads few c.in_ok-bytes.ensures.length gives
          c.in-Ok.ensures.found scalar lent.1;
      refused = tt;
    }

pub returns-in-Err : goal.returns-in-Err
returns-in-Err g c =
    let laws = g.F.Flavor.lawful in
    let few : c.in_ok-length.length ≤ 4 = search rules in
    let lent = c.try_take_n_temp.follows.holds-at-none in
    let gives = rw c.in_ok-bytes.was at lent.0 in
    node_refused g.F.Flavor char_excludes
    (char_bad laws c.in_ok-length.ensures.reads few c.in_ok-bytes.ensures.length gives
    c.in-Err.ensures.refused.1) (laws.joins _ _ _ c.in_ok-length.ensures.reads.leaves lent.1)

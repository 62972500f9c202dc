use Rattle.std.proofs.Common.{arith}
use Rattle.postcard_de_nodes.proofs.AtHandLemmas.{at_hand_read}
use Rattle.postcard_de_nodes.proofs.lists.append_at_hand.Goals as goal

pub returns-in_ok-try_take_n_temp-in-Some-clause-reads : goal.returns-in_ok-try_take_n_temp-in-Some-clause-reads
returns-in_ok-try_take_n_temp-in-Some-clause-reads g c =
    let lent = c.try_take_n_temp.follows.holds-at-none in
    let gives = rw c.in_ok-try_take_n_temp-in-Some.was at lent.0 in
    let within = rw c.in-Some.is at c.in_ok-len.ensures.within in
    let some = rw c.in-Some.is at c.in_ok-len.ensures.reads in (
      some.0,
      some.4,
      some.2,
      some.3,
      at_hand_read g.T.Shaped.shape.delimited some.1 within.1
          (c.at_hand-at_hand.ensures.can_take (omega (arith, within.0, within.1)))
          c.in_ok-try_take_n_temp-in-Some.ensures.length gives lent.1,
    )

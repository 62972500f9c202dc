-- The bytes before the window were fed.
use Rattle.std.proofs.Common.{length}
use Rattle.postcard_crc.specs.Own.{IsOwn}
use Rattle.postcard_accumulator.proofs.ReadLoop.{AtWindow}
use Rattle.postcard_crc.proofs.frames.reading.feed_all.Given as goal

abbrev pub invariant-feeds : goal.invariant-feeds
invariant-feeds g l = AtWindow g.row.N (IsOwn g.T.Shaped.shape g.W.Width.size l.fn.crc) l.fn.acc l.piece l.fn.out.items l.out.items
    l.acc l.window

abbrev pub decreases-feeds : goal.decreases-feeds
decreases-feeds g l = length l.window

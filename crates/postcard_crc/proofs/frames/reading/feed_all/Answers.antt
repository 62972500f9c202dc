-- Each turn is one feed. The loop ends when nothing of the piece is left, or an allocation fails.
use Rattle.std.proofs.Common.{length, refl, sym, ◌∙◌, [], eqb-true}
use Rattle.std.proofs.lemmas.List.{append-nil}
use Rattle.postcard_accumulator.specs.declared.answers.FeedResult.TheVariants.{Consumed, OverFull}
use Rattle.postcard_accumulator.specs.declared.answers.FeedResult.TheVariants.{DeserError, Success}
use Rattle.postcard_crc.specs.Own.{IsOwn}
use Rattle.postcard_accumulator.proofs.ReadLoop.{at_start, at_next, at_end}
use Rattle.postcard_crc.proofs.frames.reading.feed_all.Goals as goal

pub feeds-init : goal.feeds-init
feeds-init g c = at_start g.row.N (IsOwn g.T.Shaped.shape g.W.Width.size c.args.crc.now) c.args.acc.now c.args.piece.now
    c.args.out.now.items c.held_fits.ensures.no_zero c.held_fits.ensures.room

pub returns-then-is_err : goal.returns-then-is_err
returns-then-is_err g c =
    at_end g.row.N (IsOwn g.T.Shaped.shape g.W.Width.size c.args.crc.now) _ _ _ _ _ _ _ refl
    (rw (← c.reserve.ensures.items) at c.feeds.invariant)

pub returns-in-Consumed : goal.returns-in-Consumed
returns-in-Consumed g c =
    let r = at_next g.row.N (IsOwn g.T.Shaped.shape g.W.Width.size c.args.crc.now) _ _ _ _ _ _ _ Consumed
    c.held_fits-in-feeds.ensures.no_zero c.feeds.invariant c.in-Consumed.ensures in
    at_end g.row.N (IsOwn g.T.Shaped.shape g.W.Width.size c.args.crc.now) _ _ _ _ _ [] 0 refl
    (rw (c.reserve.ensures.items, ← append-nil c.feeds.out.items) r)

pub returns : goal.returns
returns g c = let e = eqb-true (length c.feeds.window.now) 0
    (sym c.is_empty.ensures ∙ c.feeds-test.false) in
    at_end g.row.N (IsOwn g.T.Shaped.shape g.W.Width.size c.args.crc.now) _ _ _ _ _ _ _ (sym e) c.feeds.invariant

pub feeds-preserved-in-OverFull : goal.feeds-preserved-in-OverFull
feeds-preserved-in-OverFull g c =
    let r = at_next g.row.N (IsOwn g.T.Shaped.shape g.W.Width.size c.args.crc.now) _ _ _ _ _ _ _
    (OverFull c.in-OverFull.remaining) c.held_fits-in-feeds.ensures.no_zero c.feeds.invariant
    c.in-OverFull.ensures in
    rw (c.keep.ensures, c.reserve.ensures.items) r

pub feeds-preserved-in-DeserError : goal.feeds-preserved-in-DeserError
feeds-preserved-in-DeserError g c =
    let r = at_next g.row.N (IsOwn g.T.Shaped.shape g.W.Width.size c.args.crc.now) _ _ _ _ _ _ _
    (DeserError c.in-DeserError.remaining) c.held_fits-in-feeds.ensures.no_zero c.feeds.invariant
    c.in-DeserError.ensures in
    rw (c.keep-in-DeserError.ensures, c.reserve.ensures.items) r

pub feeds-preserved : goal.feeds-preserved
feeds-preserved g c =
    let r = at_next g.row.N (IsOwn g.T.Shaped.shape g.W.Width.size c.args.crc.now) _ _ _ _ _ _ _
    (Success c.in-Success.value c.in-Success.remaining) c.held_fits-in-feeds.ensures.no_zero
    c.feeds.invariant c.in-Success.ensures in
    rw (c.keep-in-Success.ensures, c.reserve.ensures.items) r

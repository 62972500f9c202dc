-- The line of a skipped frame is printed already. Any other line is printed now.
use Rattle.std.proofs.Common.{◌∙◌}
use Rattle.postcard_cobs.specs.Groups.{NoZero}
use Rattle.pcard_message.proofs.StreamLemmas.{ended, ended_skipped}
use Rattle.pcard_message.proofs.stream.Stream.end_frame.Goals as goal

pub returns-then-self-clause-printed : goal.returns-then-self-clause-printed
returns-then-self-clause-printed g c longest given first was =
    let n = c.begin_frame.ensures in ended_skipped _ longest given _ _ first _ was n.longest n.start n.count n.held n.skipping c.if-self.true

pub returns-clause-printed : goal.returns-clause-printed
returns-clause-printed g c longest given first was =
    let n = c.begin_frame-2.ensures in
    let kept = c.in_ok-print_frame.ensures.kept in
    let off = c.if-self.false in
    let free : NoZero c.args.self.now.held.items = rw (was.held off).0 was.lines.rest_no_zero in
    let printed = rw was.limit at (c.in_ok-print_frame.ensures.printed free) in
    ended _ longest given _ _ first _ _ was (n.longest ∙ kept.longest) n.start (rw kept.count at n.count) n.held n.skipping off printed

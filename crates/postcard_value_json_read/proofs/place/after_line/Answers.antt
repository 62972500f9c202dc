-- The bytes before the loop's place are no line feed, so the line that ends first is the first line.
use Rattle.std.proofs.Common.{sym, ◌∙◌}
use Rattle.postcard_value_json_read.proofs.LineLemmas.{line_ends, line_goes_on}
use Rattle.postcard_value_json_read.proofs.place.after_line.Goals as goal

pub returns-then-byte-eq10 : goal.returns-then-byte-eq10
returns-then-byte-eq10 c = λ line rest is whole.
    let (more, left, e) = c.bytes.invariant line rest is whole in
    line_ends c.in-Some.byte.now c.in-Some.rest.now more rest left (sym c.in-Some.ensures.cases.0 ∙ e) c.if-byte-eq10.true

pub bytes-preserved : goal.bytes-preserved
bytes-preserved c = λ line rest is whole.
    let (more, left, e) = c.bytes.invariant line rest is whole in
    line_goes_on c.in-Some.byte.now c.in-Some.rest.now more rest left (sym c.in-Some.ensures.cases.0 ∙ e) c.if-byte-eq10.false

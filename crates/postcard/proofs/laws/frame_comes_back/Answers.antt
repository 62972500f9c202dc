-- A value that was framed fits, and its frame is read back.
use Rattle.std.proofs.Common.{ap, ◌∙◌}
use Rattle.postcard_cobs.specs.Groups.{before_zero}
use Rattle.postcard.proofs.laws.frame_comes_back.Goals as goal

pub returns : goal.returns
returns g c =
    let framed = c.deref_mut.ensures.value ∙ c.in_ok-frame.ensures.gives in
    c.in_ok-back.ensures.reads.reads_back (record { 0 = c.args.value.now }) c.in_ok-frame.ensures.fits
    (ap before_zero framed)

-- A value that was encoded fits, and its encoding is read back.
use Rattle.std.proofs.Common.{[], sym, ◌∙◌, append-nil}
use Rattle.postcard.proofs.laws.comes_back.Goals as goal

pub returns : goal.returns
returns g c = c.in_ok-back.ensures.reads_back (record { 0 = c.args.value.now }) [] c.in_ok-message.ensures.fits (c.deref.ensures.value ∙ c.in_ok-message.ensures.gives ∙ sym (append-nil _))

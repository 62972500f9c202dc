-- The bytes of the string are added to what the digest has taken.
use Rattle.postcard_key.proofs.Steps.{with_text}
use Rattle.postcard_key.proofs.text.add.Goals as goal

pub returns : goal.returns
returns c = with_text c.as_bytes.ensures.value (record { takes = c.update.ensures })

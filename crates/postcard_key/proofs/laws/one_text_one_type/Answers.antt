-- The law is the lemma of `OneText`.
use Rattle.postcard_key.proofs.OneText.{one_text}
use Rattle.postcard_key.proofs.laws.one_text_one_type.Goals as goal

pub returns : goal.returns
returns c t u f g e = one_text t u f g e

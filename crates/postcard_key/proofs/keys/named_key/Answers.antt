-- The digest took the text with names from the start, so its checksum is the key.
use Rattle.std.proofs.Common.{[], subst}
use Rattle.crc.specs.Digest.{Took}
use Rattle.postcard_key.specs.Keys.{xz}
use Rattle.postcard_key.proofs.keys.named_key.Goals as goal

pub returns : goal.returns
returns c =
    let none : Took c.digest-names.result xz [] = subst (λ a. Took c.digest-names.result a []) c.new-crc.ensures c.digest-names.ensures in
    c.finalize.ensures xz _ (c.add_named.ensures.takes xz [] none)

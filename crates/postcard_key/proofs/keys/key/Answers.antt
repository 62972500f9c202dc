-- The digest took the text of the shape from the start, so its checksum is the key.
use Rattle.std.proofs.Common.{[], subst}
use Rattle.crc.specs.Digest.{Took}
use Rattle.postcard_key.specs.Keys.{xz}
use Rattle.postcard_key.proofs.keys.key.Goals as goal

pub returns : goal.returns
returns c =
    let none : Took c.digest-shape.result xz [] = subst (λ a. Took c.digest-shape.result a []) c.new-crc.ensures c.digest-shape.ensures in
    c.finalize.ensures xz _ (c.add_shape.ensures.takes xz [] none)

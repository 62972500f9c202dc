-- CRC-64 detects each burst of at most 64 bits. So texts with one key that differ within such a burst are equal, and so are their types.
use Rattle.std.proofs.Common.{true}
use Rattle.crc.specs.Crc.{message}
use Rattle.crc.proofs.CheckedLemmas.{messages_agree, no_burst_between}
use Rattle.crc.proofs.MessageLemmas.{same_bytes}
use Rattle.postcard_key.specs.Keys.{xz}
use Rattle.postcard_key.specs.Shape.{shape_text}
use Rattle.postcard_key.proofs.OneText.{one_text}
use Rattle.postcard_key.proofs.Sound.{xz_sound}
use Rattle.postcard_key.proofs.TextBytes.{type_bytes}
use Rattle.postcard_key.proofs.laws.near_texts_differ.Goals as goal

pub returns : goal.returns
returns c t u k f g p q len burst =
    let m = shape_text t in
    let n = shape_text u in
    one_text t u f g (same_bytes true m n len (type_bytes t f) (type_bytes u g)
    (no_burst_between xz xz_sound (message true m) (message true n) (messages_agree xz xz_sound m n k len p q) burst))

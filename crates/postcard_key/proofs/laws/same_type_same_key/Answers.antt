-- Equal types have equal texts, and a text has one checksum.
use Rattle.std.proofs.Common.{sym, subst}
use Rattle.crc.proofs.CheckedLemmas.{one_crc}
use Rattle.postcard_schema.specs.Meaning.{type_of}
use Rattle.postcard_key.specs.Keys.{IsKey, xz}
use Rattle.postcard_key.specs.Shape.{shape_text}
use Rattle.postcard_key.proofs.Sound.{xz_sound}
use Rattle.postcard_key.proofs.laws.same_type_same_key.Goals as goal

pub returns : goal.returns
returns c s t same j k p q = one_crc xz xz_sound (shape_text (type_of s)) j k p (subst (λ u. IsKey u k) (sym same) q)

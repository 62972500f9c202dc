-- The words of verbs.
use Rattle.std.specs.Prelude.{ℕ, List, codes}
use Rattle.pcard_call.specs.declared.verb.Verb.{Verb}
use Rattle.pcard_call.specs.declared.verb.Verb.TheVariants as verbs

-- The word that names a verb.
abbrev pub verb_name : Verb → List ℕ
verb_name verbs.Encode = codes "enc"
verb_name verbs.Decode = codes "dec"
verb_name verbs.DecodeAll = codes "decs"
verb_name verbs.Frames = codes "frames"
verb_name verbs.Explain = codes "explain"
verb_name verbs.Size = codes "size"
verb_name verbs.Key = codes "key"
verb_name verbs.Checksum = codes "crc"
verb_name verbs.Types = codes "types"

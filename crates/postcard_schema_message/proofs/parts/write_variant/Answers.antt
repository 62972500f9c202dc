-- The variant of a value is written: from what the call wrote to what is written of the value.
use Rattle.std.proofs.lemmas.Result.{on_ok_weaker}
use Rattle.postcard_ser.proofs.PartByPart.{wrote_as}
use Rattle.postcard_schema_message.proofs.parts.write_variant.Goals as goal

pub returns-clause-wrote : goal.returns-clause-wrote
returns-clause-wrote g c = rw c.requires.tree (wrote_as c.serialize_variant.ensures.wrote c.requires.refusal c.requires.text)

pub returns-clause-fits : goal.returns-clause-fits
returns-clause-fits g c = on_ok_weaker c.serialize_variant.result c.requires.fits c.serialize_variant.ensures.fits

use Rattle.postcard_de.proofs.Groups.{group_read}
use Rattle.postcard_de.proofs.rows.PartDeserializeOwned.deserialize_owned.Goals as goal

pub returns : goal.returns
returns g c = group_read c.in_ok-parts.ensures

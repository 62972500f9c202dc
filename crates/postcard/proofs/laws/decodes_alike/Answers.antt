-- Two decodings of the same bytes agree.
use Rattle.postcard_de.proofs.Alike.{fronts_alike}
use Rattle.postcard.proofs.laws.decodes_alike.Goals as goal

pub returns : goal.returns
returns g c all rest left v w a b = fronts_alike g.T.Shaped.shape.delimited g.T.Shaped.shape.one_value a b

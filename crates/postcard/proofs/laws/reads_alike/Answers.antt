-- A value read from a reader that knows its bytes is a decoding of these bytes.
use Rattle.std.proofs.Common.{Some, ◌∙◌, ap}
use Rattle.postcard_de.proofs.Alike.{fronts_alike}
use Rattle.postcard.proofs.Unread.{unread}
use Rattle.postcard.proofs.laws.reads_alike.Goals as goal

pub returns-clause-alike : goal.returns-clause-alike
returns-clause-alike g c old new all scratch room rest v w known r front =
    let left = unread (g.R.Read.remaining old) (g.R.Read.remaining new) all r.front known r.joins in
    let both = fronts_alike g.T.Shaped.shape.delimited g.T.Shaped.shape.one_value
    (record { tree = r.tree; front = r.front; is_read = r.is_read; is_spelled = r.is_spelled; has = r.has; joins = left.2 }) front in
    (both.0, left.1 ∙ ap Some both.1)

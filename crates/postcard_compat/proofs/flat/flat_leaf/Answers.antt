-- A byte string is a list of bytes.
use Rattle.postcard_compat.proofs.Flattening.{bytes_same}
use Rattle.postcard_compat.proofs.flat.flat_leaf.Goals as goal

pub returns-in_ok-new-in-Bytes : goal.returns-in_ok-new-in-Bytes
returns-in_ok-new-in-Bytes c = bytes_same c.in_ok-new-in-Bytes.field-0 c.args.kind c.in_ok-new-in-Bytes.ensures.ok c.in-Bytes.is

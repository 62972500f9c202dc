-- The encoding of a value is the data of one frame, which is closed once all of it was pushed.
use Rattle.postcard_ser.proofs.PartByPart.{wrote_closes}
use Rattle.postcard_ser.proofs.Refusals.{no_error, succeeds}
use Rattle.postcard_wire.specs.Spelling.{canonical}
use Rattle.postcard.proofs.Framed.{one_free, data_room}
use Rattle.postcard.proofs.cobs.frame_into.Goals as goal

pub returns-in-Ok-clause-leaves : goal.returns-in-Ok-clause-leaves
returns-in-Ok-clause-leaves g c =
    let join = g.B.Flavor.lawful.reaches_join in
    join _ _ _ c.open.ensures.leaves (join _ _ _ c.in-Ok.ensures.wrote.leaves.inner c.close.ensures.leaves)

pub returns-in-Err-clause-leaves : goal.returns-in-Err-clause-leaves
returns-in-Err-clause-leaves g c =
    rw c.into_storage.ensures (g.B.Flavor.lawful.reaches_join _ _ _ c.open.ensures.leaves c.in-Err.ensures.wrote.leaves.inner)

pub returns-in-Ok-clause-own_error : goal.returns-in-Ok-clause-own_error
returns-in-Ok-clause-own_error g c few free =
    let xs = canonical (g.T.Shaped.shape.tree c.args.value.now) in
    let going = c.open.ensures.has_room (one_free g.B.Storage.free_lawful.free_fewer _ xs free) in
    let room = data_room _ xs (c.open.ensures.opens_after_held going) (c.open.ensures.keeps_free going) few free in
    no_error _ _ (c.close.ensures.has_room (wrote_closes xs room c.in-Ok.ensures.wrote))

pub returns-in-Ok-clause-has_room : goal.returns-in-Ok-clause-has_room
returns-in-Ok-clause-has_room g c n few free =
    succeeds _ n (returns-in-Ok-clause-own_error g c few free)

pub returns-in-Err-clause-own_error : goal.returns-in-Err-clause-own_error
returns-in-Err-clause-own_error g c few free =
    let xs = canonical (g.T.Shaped.shape.tree c.args.value.now) in
    let going = c.open.ensures.has_room (one_free g.B.Storage.free_lawful.free_fewer _ xs free) in
    c.in-Err.ensures.wrote.has_room (data_room _ xs (c.open.ensures.opens_after_held going) (c.open.ensures.keeps_free going) few free)

pub returns-in-Err-clause-has_room : goal.returns-in-Err-clause-has_room
returns-in-Err-clause-has_room g c n few free =
    absurd (n.has_none _ (returns-in-Err-clause-own_error g c few free))

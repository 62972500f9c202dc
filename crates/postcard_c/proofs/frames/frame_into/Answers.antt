use Rattle.std.proofs.Common.{[]}
use Rattle.postcard_ser_cobs.specs.FramingLaws.{room_of_rest}
use Rattle.postcard_c.proofs.Framed.{one_free, data_room, with_none}
use Rattle.postcard_c.proofs.frames.frame_into.Goals as goal

pub returns-in-Ok-clause-leaves : goal.returns-in-Ok-clause-leaves
returns-in-Ok-clause-leaves g c =
    let join = g.B.Flavor.lawful.reaches_join in
    join _ _ _ c.open-cobs.ensures.leaves (join _ _ _ c.in-Ok.ensures.pushed.leaves.inner c.close.ensures.leaves)

pub returns-in-Ok-clause-has_room : goal.returns-in-Ok-clause-has_room
returns-in-Ok-clause-has_room g c few free =
    let xs = c.args.bytes.now in
    let going = c.open-cobs.ensures.has_room (one_free g.B.Storage.free_lawful.free_fewer _ xs free) in
    let room = data_room _ xs (c.open-cobs.ensures.opens_after_held going) (c.open-cobs.ensures.keeps_free going) few free in
    c.close.ensures.has_room (room_of_rest xs [] (with_none xs room) (c.in-Ok.ensures.pushed.appends room.before room.d room.holds) c.in-Ok.ensures.pushed.leaves)

pub returns-in-Err-clause-has_room : goal.returns-in-Err-clause-has_room
returns-in-Err-clause-has_room g c few free =
    let xs = c.args.bytes.now in
    let going = c.open-cobs.ensures.has_room (one_free g.B.Storage.free_lawful.free_fewer _ xs free) in
    c.in-Err.ensures.pushed.has_room (data_room _ xs (c.open-cobs.ensures.opens_after_held going) (c.open-cobs.ensures.keeps_free going) few free)

-- A vector of 4,130 bytes has room for the frame of an encoding and its checksum, which is then its made frame.
use Rattle.std.proofs.Common.{[], length, ap, arith, ◌∙◌}
use Rattle.postcard_ser_cobs.specs.FramingLaws.{room_of_rest}
use Rattle.pcard_message.proofs.EncodeLemmas.{frame_room, is_frame, with_none}
use Rattle.pcard_message.proofs.encoding.frame_of.Goals as goal

pub unwrap-frame-requires : goal.unwrap-frame-requires
unwrap-frame-requires c = let n = ap length c.new.ensures in c.try_new.ensures.has_room (omega arith)

pub unwrap-requires : goal.unwrap-requires
unwrap-requires c =
    let opened = rw (c.unwrap-frame.ensures, c.new.ensures) at c.try_new.ensures.opens_after_held in
    c.try_extend.ensures.pushed.has_room (frame_room _ _ _ _ c.deref.result.now c.deref.ensures.1 opened)

pub unwrap-requires-2 : goal.unwrap-requires-2
unwrap-requires-2 c =
    let opened = rw (c.unwrap-frame.ensures, c.new.ensures) at c.try_new.ensures.opens_after_held in
    let room = frame_room _ _ _ _ c.deref.result.now c.deref.ensures.1 opened in
    let appended = rw c.unwrap.ensures at c.try_extend.ensures.pushed.appends in
    c.finalize.ensures.finalized.closes (room_of_rest c.deref.result.now [] (with_none c.deref.result.now room) (appended room.before room.d room.holds) c.try_extend.ensures.pushed.leaves)

pub returns : goal.returns
returns c =
    let opened = rw (c.unwrap-frame.ensures, c.new.ensures) at c.try_new.ensures.opens_after_held in
    let appended = rw c.unwrap.ensures at c.try_extend.ensures.pushed.appends in
    let ended = (rw c.unwrap-2.ensures at c.finalize.ensures.finalized.gives) [] c.deref.result.now (appended [] [] opened) in
    is_frame _ _ (rw c.deref.ensures.0 at (ended.3 ∙ ended.1))

-- If two bytes are pushed, the second is free once the first is appended, and three calls leave
-- what one may.
use Rattle.postcard_ser_cobs.proofs.steps.take_step.Goals as goal

pub returns-in_err-push_one-in-ModifyFromStartAndPushAndSkip-clause-has_room :
    goal.returns-in_err-push_one-in-ModifyFromStartAndPushAndSkip-clause-has_room
returns-in_err-push_one-in-ModifyFromStartAndPushAndSkip-clause-has_room g c h =
    let two = rw c.in-ModifyFromStartAndPushAndSkip.is at h in
    let no = c.in_err-push_one-in-ModifyFromStartAndPushAndSkip.ensures.has_room
    (g.B.Storage.free_lawful.free_fewer _ 1 1 (c.set_code-in-ModifyFromStartAndPushAndSkip.ensures.keeps_free _ two)) in
    absurd (cc)

pub returns-in_ok-push_one-in-ModifyFromStartAndPushAndSkip-clause-leaves :
    goal.returns-in_ok-push_one-in-ModifyFromStartAndPushAndSkip-clause-leaves
returns-in_ok-push_one-in-ModifyFromStartAndPushAndSkip-clause-leaves g c =
    let join = g.B.Flavor.lawful.reaches_join in
    join _ _ _ c.set_code-in-ModifyFromStartAndPushAndSkip.ensures.leaves
    (join _ _ _ c.in_ok-push_one-in-ModifyFromStartAndPushAndSkip.ensures.leaves c.push_one-in-ModifyFromStartAndPushAndSkip-2.ensures.leaves)

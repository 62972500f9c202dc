-- A piece, a run or a byte is a front of the bytes that are left, so it has room if they have.
use Rattle.std.proofs.Common.{◌-◌, ◌<◌, [], ◌∷◌, length, take, drop, subst, sym, ◌∙◌, arith, get_or}
use Rattle.std.proofs.lemmas.List.{take_rest, length-drop}
use Rattle.postcard_ser_cobs.specs.Framing.{HasFrameRoom}
use Rattle.postcard_ser_cobs.specs.FramingLaws.{room_of_front}
use Rattle.postcard_ser_cobs.proofs.RunLemmas.{first_and_rest, first_of_rest, front_of_rest, room_of_next}
use Rattle.postcard_ser_cobs.proofs.cobs.Cobs.push_next.Goals as goal

pub returns-in_err-push_step-clause-has_room : goal.returns-in_err-push_step-clause-has_room
returns-in_err-push_step-clause-has_room g c r =
    let s = c.args.self.now in
    let q = take_rest c.args.bytes.now c.args.place in
    let rest = take (length c.args.bytes.now - c.args.place) (drop c.args.place c.args.bytes.now) in
    let l : 0 < length (drop c.args.place c.args.bytes.now) = omega (arith, length-drop c.args.place c.args.bytes.now, c.requires) in
    let l' : 0 < length rest = rw q l in
    let no = c.in_err-push_step.ensures.pushed.has_room
    (room_of_front g.B.Storage.free_lawful.free_fewer (get_or rest 0 0 ∷ []) (drop 1 rest) (subst (λ z. HasFrameRoom g.B.Storage.held g.B.Storage.free s.storage s.start s.encoder s.failed z) (sym q ∙ first_and_rest rest l') r)) in
    absurd (cc)

pub returns-in_err-push_run-clause-has_room : goal.returns-in_err-push_run-clause-has_room
returns-in_err-push_run-clause-has_room g c r =
    let no = c.in_err-push_run.ensures.pushed.has_room (room_of_next g.B.Storage.free_lawful.free_fewer c.args.bytes.now c.args.place c.run_len-count.result r) in
    absurd (cc)

pub returns-in_err-push_dense-clause-has_room : goal.returns-in_err-push_dense-clause-has_room
returns-in_err-push_dense-clause-has_room g c r =
    let no = c.in_err-push_dense.ensures.pushed.has_room (room_of_next g.B.Storage.free_lawful.free_fewer c.args.bytes.now c.args.place c.dense_len-dense.result r) in
    absurd (cc)

pub returns-then-dense-gt0-clause-appends : goal.returns-then-dense-gt0-clause-appends
returns-then-dense-gt0-clause-appends g c = rw (front_of_rest c.args.bytes.now c.args.place c.dense_len-dense.result) c.in_ok-push_dense.ensures.pushed.appends

pub returns-then-count-eq0-clause-appends : goal.returns-then-count-eq0-clause-appends
returns-then-count-eq0-clause-appends g c = rw (first_of_rest c.args.bytes.now c.args.place c.requires) c.in_ok-push_step.ensures.pushed.appends

pub returns-clause-appends : goal.returns-clause-appends
returns-clause-appends g c = rw (front_of_rest c.args.bytes.now c.args.place c.run_len-count.result) c.in_ok-push_run.ensures.pushed.appends

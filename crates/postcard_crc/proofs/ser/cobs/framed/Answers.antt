-- If the frame fits after what a storage holds, it is made there.
use Rattle.std.proofs.Common.{◌≡◌, ◌+◌, [], ◌++◌, length, ap, ◌∙◌, length-append}
use Rattle.std.proofs.lemmas.Result.{err_from_is_err_and, IfOk-weaker}
use Rattle.postcard_wire.specs.Spelling.{canonical}
use Rattle.crc.specs.Checked.{low_bytes}
use Rattle.crc.proofs.CheckedLemmas.{length_low}
use Rattle.postcard_ser.proofs.Refusals.{succeeds}
use Rattle.postcard_crc.proofs.Framed.{one_free, data_room}
use Rattle.postcard_crc.proofs.ser.cobs.framed.Goals as goal

pub returns-in_err-try_new-clause-own_error : goal.returns-in_err-try_new-clause-own_error
returns-in_err-try_new-clause-own_error g c few free =
    let enc = canonical (g.T.Shaped.shape.tree c.args.value.now) in
    let xs = enc ++ low_bytes g.W.Width.size 0 in
    let count : length xs ≡ length enc + g.W.Width.size = length-append enc (low_bytes g.W.Width.size 0) ∙ ap (λ k. length enc + k) (length_low g.W.Width.size 0) in
    let p = err_from_is_err_and c.from_residual.result c.from_residual.ensures.1 in
    let no = c.in_err-try_new.ensures.has_room (one_free g.B.Storage.free_lawful.free_fewer _ xs (free xs count)) in
    absurd (cc)

pub returns-in_err-try_new-clause-has_room : goal.returns-in_err-try_new-clause-has_room
returns-in_err-try_new-clause-has_room g c n few free =
    succeeds _ n (returns-in_err-try_new-clause-own_error g c few free)

pub returns-clause-gives : goal.returns-clause-gives
returns-clause-gives g c =
    let before = g.B.Storage.held c.args.storage in
    let enc = canonical (g.T.Shaped.shape.tree c.args.value.now) in
    IfOk-weaker c.serialize_with_checksum.result _ _
    (λ o all.
    let fin = all.ended in
    let b = fin.ended before (enc ++ low_bytes g.W.Width.size all.crc) (fin.appended before [] c.in_ok-try_new.ensures.opens_after_held) in
    (all.crc, all.is_crc, (b.0, b.1, g.B.Flavor.lawful.reaches_join _ _ _ c.in_ok-try_new.ensures.leaves (g.B.Flavor.lawful.reaches_join _ _ _ fin.reached.inner b.2), b.3)))
    c.serialize_with_checksum.ensures.gives

pub returns-clause-own_error : goal.returns-clause-own_error
returns-clause-own_error g c few free =
    c.serialize_with_checksum.ensures.own_error
    (λ ys count. data_room _ ys c.in_ok-try_new.ensures.opens_after_held c.in_ok-try_new.ensures.keeps_free (few ys count) (free ys count))

pub returns-clause-has_room : goal.returns-clause-has_room
returns-clause-has_room g c n few free =
    succeeds _ n (returns-clause-own_error g c few free)

-- `rest` begins with the checksum of the bytes before it.
use Rattle.std.proofs.Common.{◌≡◌, ◌++◌, ap, ◌∙◌}
use Rattle.std.proofs.lemmas.Result.{IfOk-weaker}
use Rattle.crc.specs.Checked.{low_bytes}
use Rattle.crc.proofs.CheckedLemmas.{one_crc}
use Rattle.postcard_crc.proofs.de.checked.Goals as goal

pub returns-clause-gives : goal.returns-clause-gives
returns-clause-gives g c =
    IfOk-weaker c.after_checksum.result _ _ (λ after h front b. (g.W.Width.number c.crc_before.result, c.crc_before.ensures front b, h)) c.after_checksum.ensures.gives

pub returns-clause-accepts : goal.returns-clause-accepts
returns-clause-accepts g c a m front after crc sound took e is rest_is =
    let k = g.W.Width.size in
    let got = g.W.Width.number c.crc_before.result in
    let one : crc ≡ got = one_crc a sound (m ++ front) crc got is (c.crc_before.ensures front e a m took) in
    c.after_checksum.ensures.accepts after (rest_is ∙ ap (λ n. low_bytes k n ++ after) one)

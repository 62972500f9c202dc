-- The pieces that are written are the text of the member.
use Rattle.std.proofs.lemmas.Result.{on_ok_weaker}
use Rattle.pcard_print.proofs.LineLemmas.{member_appended}
use Rattle.pcard_print.proofs.digits.write_member.Goals as goal

pub returns : goal.returns
returns g c =
    on_ok_weaker c.write_all.result (λ h. member_appended _ _ _ _ c.args.name.now c.args.bytes.now c.in_ok-write.ensures.bytes c.in_ok-write_hex.ensures h)
    c.write_all.ensures.bytes

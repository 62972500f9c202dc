-- The pieces that are written are the line of the refusal.
use Rattle.std.proofs.KnownBytes.{Appends-trans}
use Rattle.std.proofs.lemmas.Result.{on_ok_weaker}
use Rattle.pcard_print.proofs.refusal_line.print_text.Goals as goal

pub returns : goal.returns
returns g c =
    let head = rw c.text-why.ensures at c.in_ok-write.ensures.bytes in
    on_ok_weaker c.write_all.result (λ h. Appends-trans _ _ _ _ _ head (Appends-trans _ _ _ _ _ c.in_ok-print_shown.ensures h)) c.write_all.ensures.bytes

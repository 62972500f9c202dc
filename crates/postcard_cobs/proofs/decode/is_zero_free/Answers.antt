-- Without a zero the frame is the whole buffer.
use Rattle.std.proofs.Common.{length, eq-eqb, ◌∙◌}
use Rattle.std.proofs.lemmas.Bool.{eqb-true}
use Rattle.postcard_cobs.proofs.Searching.{all_before}
use Rattle.postcard_cobs.proofs.decode.is_zero_free.Goals as goal

pub returns-in_default : goal.returns-in_default
returns-in_default c =
    let all = length c.args.buf.now in (
      λ t. c.frame_len.ensures.no_zero (eqb-true c.frame_len.result all t),
      λ z. eq-eqb c.frame_len.result all (c.frame_len.ensures.value ∙ all_before c.args.buf.now z),
    )

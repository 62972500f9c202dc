-- The frame, or the message and its checksum alone, is what is printed.
use Rattle.std.proofs.Common.{sym, subst}
use Rattle.postcard_cobs.specs.Groups.{IsMade}
use Rattle.pcard_message.proofs.EncodeLemmas.{in_frame, alone}
use Rattle.pcard_message.proofs.encoding.encode.Goals as goal
use Rattle.pcard_message.proofs.encoding.encode.Goals.{then-format+in_ok-print_bytes, else-format+in_ok-print_bytes-2}

pub returns-clause-printed : goal.returns-clause-printed
returns-clause-printed g c =
    let format = c.args.format.now in
    let body = c.in_ok-body.body.items in
    elim c.if-format.branch [
      | then-format+in_ok-print_bytes w ↦
          rw w.output-is
          (in_frame format c.args.raw c.args.text.now c.in_ok-value.value body w.deref.result.now _ _ c.in_ok-value.ensures.value c.in_ok-body.ensures.body
          w.in_ok-print_bytes.ensures w.if-format.true (subst (λ f. IsMade body f) (sym w.deref.ensures.0) w.frame_of.ensures))
      | else-format+in_ok-print_bytes-2 w ↦
          rw w.output-is
          (alone format c.args.raw c.args.text.now c.in_ok-value.value body w.deref-else-format.result.now _ _ c.in_ok-value.ensures.value c.in_ok-body.ensures.body
          w.in_ok-print_bytes-2.ensures w.if-format.false w.deref-else-format.ensures.0)
    ]

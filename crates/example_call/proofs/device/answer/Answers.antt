-- If no request can be read from the frame, the reply is the refusal.
use Rattle.std.proofs.Common.{◌≡◌, Result, Ok, Err, IfOk, MatchResult}
use Rattle.postcard_wire.specs.declared.error.Error.{Error}
use Rattle.example_call.specs.Device.{IsReplyTo}
use Rattle.example_call.specs.declared.message.Request.{Request}
use Rattle.example_call.specs.declared.message.Reply.{Reply}
use Rattle.example_call.specs.declared.message.Reply.TheVariants.{Refused}
use Rattle.example_call.specs.declared.message.Refusal.TheVariants.{NotUnderstood}
use Rattle.example_call.proofs.device.answer.Goals as goal

-- If only values of P are read and no value has P, the reply is the refusal.
refused : {P : Request → Type 0} (r : Result Request Error) (reply : Reply) → IfOk r P → MatchResult r (λ a. IsReplyTo a reply) (λ e. reply ≡ Refused NotUnderstood) → ((a : Request) → P a → ⊥) → reply ≡ Refused NotUnderstood
refused (Ok v) reply g m n = absurd (n v g)
refused (Err e) reply g m n = m

pub returns-clause-refuses : goal.returns-clause-refuses
returns-clause-refuses c n =
    let e = refused c.from_bytes_cobs.result c.reply_to-reply.result c.from_bytes_cobs.ensures.reads.gives c.reply_to-reply.ensures n in
    rw e at c.to_slice_cobs.ensures.gives

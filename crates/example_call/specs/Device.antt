-- Which reply a device sends to a request.
use Rattle.std.specs.Prelude.{◌≡◌, ◌+◌, ◌^◌, ◌<◌, ◌≤◌, ℕ, List}
use Rattle.example_call.specs.declared.message.Request.{Request}
use Rattle.example_call.specs.declared.message.Request.TheVariants.{Ping, Add, Echo}
use Rattle.example_call.specs.declared.message.Reply.{Reply}
use Rattle.example_call.specs.declared.message.Reply.TheVariants.{Pong, Sum, Text, Refused}
use Rattle.example_call.specs.declared.message.Refusal.TheVariants.{TooLarge}

-- The reply is a text of these bytes.
abbrev pub SaysText : List ℕ → Reply → Type 0
SaysText bytes Pong = ⊥
SaysText bytes (Sum sum) = ⊥
SaysText bytes (Text text) = text.now ≡ bytes
SaysText bytes (Refused refusal) = ⊥

-- The reply is the sum of two numbers, or the refusal if the sum doesn't fit in 32 bits.
pub record IsSum (left right : ℕ) (reply : Reply) : Type 0 where
  pub fits : left + right < 2 ^ 32 → reply ≡ Sum (left + right)
  pub too_large : 2 ^ 32 ≤ left + right → reply ≡ Refused TooLarge

-- The reply is the one to this request.
abbrev pub IsReplyTo : Request → Reply → Type 0
IsReplyTo Ping reply = reply ≡ Pong
IsReplyTo (Add left right) reply = IsSum left right reply
IsReplyTo (Echo text) reply = SaysText text.now reply

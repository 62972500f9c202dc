-- ASCII is UTF-8.
use Rattle.std.proofs.lemmas.Str.{IsUtf8-from_ascii}
use Rattle.postcard_wire.proofs.text.is_utf8.Goals as goal

pub returns-then-is_short_ascii : goal.returns-then-is_short_ascii
returns-then-is_short_ascii c = (
  λ t. IsUtf8-from_ascii c.args.bytes.now (c.is_short_ascii.ensures t),
  λ u. c.if-is_short_ascii.true,
)

-- The digits of 0 are a zero, and a number has a digit, so that its varint is refused after a refusal.
use Rattle.std.proofs.Common.{rules}
use Rattle.postcard_ser_cobs.proofs.NumberLemmas.{digits_some, digits_none}
use Rattle.postcard_ser_cobs.proofs.cobs.Cobs.push_digits.Goals as goal

pub returns-then-n-eq0 : goal.returns-then-n-eq0
returns-then-n-eq0 g c = rw (c.if-n-eq0.true, digits_none) c.push_step.ensures

pub returns : goal.returns
returns g c = record {
  pushed = search rules;
  stays_refused = λ failed. c.push_pieces.ensures.stays_refused failed (rw c.varint_u64.ensures (digits_some c.args.n));
  storage_kept = search rules;
  remembers_refusal = search rules;
  refuses_by_buffer_full = search rules;
}

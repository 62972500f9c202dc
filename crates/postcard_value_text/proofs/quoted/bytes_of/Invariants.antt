-- The bytes so far are those of the digits so far.
use Rattle.postcard_value_text.proofs.Quotes.{HasBytes}
use Rattle.postcard_value_text.proofs.quoted.bytes_of.Given as goal

abbrev pub invariant-loop : goal.invariant-loop
invariant-loop l = HasBytes l.bytes.items l.counter l.digits l.rest

-- The line of a value that was found is printed.
use Rattle.pcard_message.proofs.decoding.print_next.Goals as goal

pub returns-in_ok-print_value-in-Value-clause-printed : goal.returns-in_ok-print_value-in-Value-clause-printed
returns-in_ok-print_value-in-Value-clause-printed g c = record {
  found = record { value_of = c.in-Value.value; rest = c.in-Value.behind.now };
  is = rw c.in-Value.is at c.in_ok-answer.ensures;
  printed = rw c.saturating_sub-start.ensures at c.in_ok-print_value-in-Value.ensures.printed;
}

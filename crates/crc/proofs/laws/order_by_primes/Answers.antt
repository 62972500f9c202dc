-- By the lemma on primes.
use Rattle.crc.proofs.PrimeOrder.{order_of}
use Rattle.crc.proofs.laws.order_by_primes.Goals as goal

pub returns-clause-none_below : goal.returns-clause-none_below
returns-clause-none_below c a k primes shown = (order_of a k primes shown).0

pub returns-clause-is_order : goal.returns-clause-is_order
returns-clause-is_order c a k primes shown = (order_of a k primes shown).1

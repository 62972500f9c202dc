-- The code so far is the number of the digits so far, and the digits after them are left.
use Rattle.std.proofs.Common.{ℕ, List}
use Rattle.postcard_value_text.specs.{IsCode, TakesPhrase}
use Rattle.postcard_value_text.proofs.QuotedFronts.{CodeLeft}
use Rattle.postcard_value_text.proofs.Quotes.{HasDigits}
use Rattle.postcard_value_text.proofs.quoted.take_code.Given as goal

abbrev pub invariant-loop-count : goal.invariant-loop-count
invariant-loop-count l = record {
  taken : HasDigits l.count l.code l.fn.rest.now l.rest.now;
  left : (c : ℕ) (after : List ℕ) → TakesPhrase (IsCode c) l.fn.rest.now after → CodeLeft l.count l.code c l.rest.now after;
}

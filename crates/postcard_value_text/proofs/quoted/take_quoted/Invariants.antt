-- The bytes so far are those of the pieces so far, and the pieces after them are left.
use Rattle.std.proofs.Common.{◌≡◌, ◌≢◌, ℕ, ◌+◌, ◌≤◌, false, List, length}
use Rattle.std.specs.Char.{is_ascii_whitespace}
use Rattle.postcard_value_text.specs.{IsQuoted, TakesPhrase}
use Rattle.postcard_value_text.proofs.QuotedFronts.{PiecesLeft}
use Rattle.postcard_value_text.proofs.Quotes.{HasPieces}
use Rattle.postcard_value_text.proofs.quoted.take_quoted.Given as goal

abbrev pub invariant-loop : goal.invariant-loop
invariant-loop l = record {
  taken : HasPieces l.quote l.bytes.items l.fn.rest.now l.rest.now;
  short : length l.rest.now + l.counter ≤ length l.initial.rest.now;
  left : is_ascii_whitespace l.quote ≡ false → l.quote ≢ 92 → (held after : List ℕ) → TakesPhrase (IsQuoted l.quote held) l.fn.rest.now after → PiecesLeft l.quote l.bytes.items held l.rest.now after;
}

-- The tokens so far are within the bracket.
use Rattle.std.proofs.Common.{◌≡◌, ℕ, ◌<◌}
use Rattle.std.specs.Prelude.{Some, slice_get}
use Rattle.postcard_source.specs.declared.token.Token.{Token}
use Rattle.postcard_source.proofs.kept.after_bracket.Given as goal

abbrev pub invariant-loop-last : goal.invariant-loop-last
invariant-loop-last l = (opening : Token) × (slice_get l.tokens l.at ≡ Some opening)
    × ((k : ℕ) (t : Token) → l.at < k → k < l.last → slice_get l.tokens k ≡ Some t → opening.depth < t.depth)

-- Letters lead from the text to what is left, and none of them begins with the quote.
use Rattle.std.proofs.Common.{◌≡◌, List, ℕ, ◌∷◌}
use Rattle.postcard_source.specs.Steps.{Steps}
use Rattle.postcard_source.specs.Lexical.{IsLetter}
use Rattle.postcard_source.proofs.lex.after_letters.Given as goal

abbrev pub invariant-loop : goal.invariant-loop
invariant-loop l = Steps (λ a b. IsLetter a b × ((after : List ℕ) → a ≡ l.quote ∷ after → ⊥)) l.text l.rest

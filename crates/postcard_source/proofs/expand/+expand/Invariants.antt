-- Why the functions end: each call of `write_declaration` has less depth left, and calls `write_token` with the same depth.
-- The loop keeps the declarations being replaced, and has written the text and the words of the tokens before index `at`.
use Rattle.std.proofs.Common.{◌≡◌, List, ℕ, ◌+◌, ◌*◌, ◌++◌, length}
use Rattle.postcard_source.specs.Tokens.{spelling}
use Rattle.postcard_source.specs.Expands.{Counts, Spells}
use Rattle.postcard_source.proofs.expand.+expand.Given as goal

abbrev pub decreases-write_token : goal.decreases-write_token
decreases-write_token l = 2 * l.depth

abbrev pub decreases-write_declaration : goal.decreases-write_declaration
decreases-write_declaration l = 2 * l.depth + 1

abbrev pub invariant-write_declaration-loop-at : goal.invariant-write_declaration-loop-at
invariant-write_declaration-loop-at l = (l.within.items ≡ l.initial.within.items)
    × ((text : List ℕ) × (spelling l.out.items ≡ spelling l.initial.out.items ++ text) × Spells l.tokens l.known l.declaration l.at text)
    × ((n : ℕ) × (length l.out.items ≡ length l.initial.out.items + n) × Counts l.tokens l.known l.declaration l.at n)

-- Steps inside the comment lead from its beginning to the loop's state, in which a comment is open. The open comments and the
-- bytes that are left are at most 1 and the bytes after the first `/*`. The bytes: 42 is `*`, 47 is `/`.
use Rattle.std.proofs.Common.{◌≡◌, ◌+◌, ◌<◌, ◌≤◌, ℕ, List, ◌∷◌, length}
use Rattle.postcard_source.specs.Steps.{Steps}
use Rattle.postcard_source.specs.Lexical.{CommentStep}
use Rattle.postcard_source.proofs.lex.after_block_comment.Given as goal

abbrev pub invariant-bytes : goal.invariant-bytes
invariant-bytes l = (inner : List ℕ) × (l.text ≡ 47 ∷ 42 ∷ inner) × Steps (λ s t. CommentStep s t × (0 < t.0)) (1, inner) (l.depth, l.rest)
    × (0 < l.depth) × (l.depth + length l.rest ≤ 1 + length inner)

abbrev pub decreases-bytes : goal.decreases-bytes
decreases-bytes l = length l.rest

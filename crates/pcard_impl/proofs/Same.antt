-- Statements of a file and the texts outside of its marks also hold of an equal file and equal texts.
use Rattle.std.proofs.Common.{◌≡◌, ℕ, List, subst}
use Rattle.pcard_impl.specs.Marks.{IsOutside, IsMarked}

-- If two texts are those outside of a file's marks, so are equal ones.
pub still_outside : (first second file before after before' after' : List ℕ) → IsOutside first second file before after
    → before ≡ before' → after ≡ after' → IsOutside first second file before' after'
still_outside first second file before after before' after' is same_before same_after =
    subst (λ l. IsOutside first second file l after') same_before (subst (λ l. IsOutside first second file before l) same_after is)

-- The texts outside of a file's marks are those outside of an equal file's marks.
pub same_file : (first second file before after file' : List ℕ) → IsOutside first second file before after → file ≡ file'
    → IsOutside first second file' before after
same_file first second file before after file' is same = subst (λ l. IsOutside first second l before after) same is

-- If a text is a file with a text between its marks, it is so of an equal file.
pub same_marked : (first second file written file' : List ℕ) → IsMarked first second file written → file ≡ file' → IsMarked first second file' written
same_marked first second file written file' is same = subst (λ l. IsMarked first second l written) same is

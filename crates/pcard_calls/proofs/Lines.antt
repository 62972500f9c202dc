-- The lines of answers grow by one line for each answer.
use Rattle.std.proofs.Common.{◌≡◌, ℕ, ◌+◌, ◌<◌, List, [], ◌∷◌, ◌++◌, length, get_or, take, Vec, sym, ap, ◌∙◌}
use Rattle.std.specs.declared.alloc.Global.{Global}
use Rattle.std.proofs.lemmas.List.{append-nil, take_more}
use Rattle.std.proofs.lemmas.Grind.{flat_map-append}
use Rattle.postcard_accumulator.specs.declared.answers.Answer.{Answer}
use Rattle.pcard_calls.specs.Frames.{answer_line, answer_lines}

-- The lines of the first i + 1 answers are those of the first i, and then that of answer i.
pub lines_more : (xs : List (Answer (Vec ℕ Global))) (i : ℕ) (x : Answer (Vec ℕ Global)) → i < length xs → x ≡ get_or xs i x
    → answer_lines (take (i + 1) xs) ≡ answer_lines (take i xs) ++ answer_line x
lines_more xs i x low is =
    ap answer_lines (take_more xs i x low ∙ ap (λ y. take i xs ++ y ∷ []) (sym is)) ∙ flat_map-append answer_line (take i xs) (x ∷ [])
    ∙ ap (λ t. answer_lines (take i xs) ++ t) (append-nil (answer_line x))

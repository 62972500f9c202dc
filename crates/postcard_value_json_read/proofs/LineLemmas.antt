-- Lemmas for dropping lines of a text: a byte of the first line, or the whole line.
use Rattle.std.proofs.Common.{◌≡◌, ℕ, suc, ◌+◌, ◌-◌, ◌<◌, List, [], ◌∷◌, ◌++◌, ap, ◌∙◌, subst, append_assoc, arith}
use Rattle.postcard_value_json_read.specs.Lines.{AreLines, IsLine}

-- A line feed ends the line.
pub line_ends : (b : ℕ) (left more rest : List ℕ) → IsLine more → b ∷ left ≡ more ++ 10 ∷ rest → b ≡ 10 → left ≡ rest
line_ends b left [] rest line e is = cc
line_ends b left (x ∷ xs) rest line e is = absurd (line.0 (cc))

-- Another byte is one of the line, and the line goes on after it.
pub line_goes_on : (b : ℕ) (left more rest : List ℕ) → IsLine more → b ∷ left ≡ more ++ 10 ∷ rest → (b ≡ 10 → ⊥) → (line : List ℕ) × IsLine line × (left ≡ line ++ 10 ∷ rest)
line_goes_on b left [] rest line e other = absurd (other cc)
line_goes_on b left (x ∷ xs) rest line e other = (xs, line.1, cc)

-- Dropping one of the lines that are left.
pub line_less : (n m : ℕ) (text more rest left : List ℕ) → m < n → AreLines (n - m) more → text ≡ more ++ rest → ((line after : List ℕ) → IsLine line → text ≡ line ++ 10 ∷ after → left ≡ after)
    → (fewer : List ℕ) × AreLines (n - (m + 1)) fewer × (left ≡ fewer ++ rest)
line_less n m text more rest left low lines whole cut =
    let e : n - m ≡ suc (n - (m + 1)) = omega arith in
    let (line, after, is, first, others) = subst (λ k. AreLines k more) e lines in
    (after, others, cut line (after ++ rest) is (whole ∙ ap (λ t. t ++ rest) first ∙ append_assoc line (10 ∷ after) rest))

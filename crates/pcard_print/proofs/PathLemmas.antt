-- The text of a path: of one step it is the step's text, and of two steps or more it isn't empty.
use Rattle.std.proofs.Common.{◌≡◌, Bool, true, false, if◌then◌else◌, ◌==◌, ◌/◌, ◌%◌, ℕ, ◌+◌, ◌<◌, ◌≤◌, List, [], ◌∷◌, suc, zero, length, length-append, arith}
use Rattle.std.proofs.lemmas.List.{append-nil}
use Rattle.std.specs.Fmt.{decimal, digit_glyph, digits, digits_onto}
use Rattle.postcard_schema.specs.Paths.{PlainStep, at_name, at_part, at_element, at_each, path_text, placed_text, plain_step, sign_before, step_text}
use Rattle.postcard_schema.specs.declared.path.Step.{Step}

-- The text of a path of one step is the text of the step.
pub one_step : (s : Step) → path_text (s ∷ []) ≡ step_text (plain_step s)
one_step s = append-nil (step_text (plain_step s))

-- If both texts have at least `n` bytes, the chosen one has.
one_of : (b : Bool) (xs ys : List ℕ) (n : ℕ) → n ≤ length xs → n ≤ length ys → n ≤ length (if b then xs else ys)
one_of true xs ys n first second = first
one_of false xs ys n first second = second

-- Putting digits before a text makes it no shorter.
digits_longer : (k n : ℕ) (after : List ℕ) → length after ≤ length (digits_onto k 10 false n after)
digits_longer zero n after = omega arith
digits_longer (suc k) n after =
    let glyph = digit_glyph false (n % 10) in
    let more = digits_longer k (n / 10) (glyph ∷ after) in
    one_of (n / 10 == 0) (glyph ∷ after) (digits_onto k 10 false (n / 10) (glyph ∷ after)) (length after) (omega arith) (omega arith)

-- The decimal digits of a number are at least one.
pub number_shown : (n : ℕ) → 0 < length (decimal n)
unfolding digits
number_shown n =
    let glyph = digit_glyph false (n % 10) in
    one_of (n / 10 == 0) (glyph ∷ []) (digits_onto 63 10 false (n / 10) (glyph ∷ [])) 1 (omega arith) (digits_longer 63 (n / 10) (glyph ∷ []))

-- The text of a step that isn't the first has at least one byte.
later_shown : (i : ℕ) (s : PlainStep) → 1 ≤ i → 0 < length (placed_text i s)
later_shown zero s some = absurd (omega arith)
later_shown (suc i) (at_name name) some = omega arith
later_shown (suc i) (at_part k) some = omega arith
later_shown (suc i) (at_element k) some = omega arith
later_shown (suc i) at_each some = omega arith

-- The text of a path of two steps or more has at least one byte.
pub more_steps : (steps : List Step) → 2 ≤ length steps → 0 < length (path_text steps)
more_steps [] two = absurd (omega arith)
more_steps (a ∷ []) two = absurd (omega arith)
more_steps (a ∷ b ∷ steps) two =
    let some : 0 < length (sign_before (plain_step b)) + length (step_text (plain_step b)) =
    rw (length-append (sign_before (plain_step b)) (step_text (plain_step b))) at (later_shown 1 (plain_step b) (omega arith)) in
    simp length-append (omega arith)

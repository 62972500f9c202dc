-- The words of a call as lists of bytes, and two lemmas of results.
use Rattle.std.proofs.Common.{◌≡◌, ℕ, List, [], ◌∷◌, length, map, refl, ap, sym, ◌∙◌, arith, Global, String, string_bytes}
use Rattle.std.specs.Prelude.{Result, Ok, Err, IfOk, IfErr}
use Rattle.std.specs.List.{IsFirstAndRest}

-- If words are a first word and a rest, their bytes are those of the first word and those of the rest.
pub first_and_rest : (words rest : List (String Global)) (w : String Global) (word : List ℕ) → IsFirstAndRest words w rest → word ≡ string_bytes w
    → map string_bytes words ≡ word ∷ map string_bytes rest
first_and_rest words rest w word first is = ap (map string_bytes) first.0 ∙ ap (λ z. z ∷ map string_bytes rest) (sym is)

-- A list of no words is empty.
pub none : (words : List (String Global)) → length words ≡ 0 → words ≡ []
none [] n = refl
none (w ∷ words) n = absurd (omega (arith, n))

-- If P implies Q, and P holds of a success, so does Q.
pub if_ok : {A E : Type 0} {P Q : A → Type 0} (r : Result A E) → ((x : A) → P x → Q x) → IfOk r P → IfOk r Q
if_ok (Ok x) f h = f x h
if_ok (Err e) f h = tt

-- If P implies Q, and P holds of a failure, so does Q.
pub if_err : {A E : Type 0} {P Q : E → Type 0} (r : Result A E) → ((e : E) → P e → Q e) → IfErr r P → IfErr r Q
if_err (Ok x) f h = tt
if_err (Err e) f h = f e h

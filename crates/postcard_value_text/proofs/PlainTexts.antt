-- Lemmas on texts without escapes.
use Rattle.std.proofs.Common.{◌≡◌, ℕ, true, List, [], ◌∷◌, ◌++◌, Some, refl, ap, ◌∙◌, arith}
use Rattle.std.specs.Char.{is_ascii}
use Rattle.std.specs.Fmt.{debug_escape, debug_str}
use Rattle.std.specs.List.{flat_map, list_all}
use Rattle.std.proofs.lemmas.Bool.{and_parts, and_from}
use Rattle.std.proofs.lemmas.Bool.Decides.{nat_tests}
use Rattle.postcard_value_text.specs.Shown.{stands_for_itself}

-- A character that stands for itself is of ASCII and has no escape.
plain_ascii : (c : ℕ) → stands_for_itself c ≡ true → is_ascii c ≡ true
plain_ascii c plain = grind (arith, nat_tests, plain)

plain_escape : (c : ℕ) → stands_for_itself c ≡ true → debug_escape 34 c ≡ c ∷ []
unfolding debug_escape
plain_escape c plain = grind (arith, nat_tests, plain)

plain_bytes : (text : List ℕ) → list_all stands_for_itself text ≡ true → (list_all is_ascii text ≡ true) × (flat_map (debug_escape 34) text ≡ text)
plain_bytes [] all = (refl, refl)
plain_bytes (c ∷ text) all =
    let parts = and_parts (stands_for_itself c) (list_all stands_for_itself text) all in
    let rest = plain_bytes text parts.1 in (
      and_from (is_ascii c) (list_all is_ascii text) (plain_ascii c parts.0) rest.0,
      ap (λ (x : List ℕ). x ++ flat_map (debug_escape 34) text) (plain_escape c parts.0) ∙ ap (λ (x : List ℕ). c ∷ x) rest.1,
    )

-- A string of characters that stand for themselves is printed unchanged between double quotes.
pub plain_text : (text : List ℕ) → list_all stands_for_itself text ≡ true → debug_str text ≡ Some (34 ∷ (text ++ 34 ∷ []))
plain_text text all = let is = plain_bytes text all in rw (is.0, is.1) refl

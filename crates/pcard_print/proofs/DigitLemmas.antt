-- Bytes are printed as hexadecimal digits piece by piece: the digits of two pieces are those of the joined bytes.
use Rattle.std.proofs.Common.{◌≡◌, ℕ, List, [], ◌∷◌, ◌++◌, Option, take, drop, refl, sym, ap, ◌∙◌}
use Rattle.std.proofs.lemmas.List.{append_assoc, take-append-drop}
use Rattle.std.specs.Io.KnownBytes.{Appends}
use Rattle.std.proofs.KnownBytes.{Appends-trans}
use Rattle.hex.specs.Hex.{encode_lower, encode_with, lower_digits}

-- No bytes have no digits.
pub encode_lower-nil : encode_lower [] ≡ []
unfolding encode_with
encode_lower-nil = refl

-- The digits of two lists of bytes in a row are those of the first and then those of the second.
pub encode_with-append : (t xs ys : List ℕ) → encode_with t (xs ++ ys) ≡ encode_with t xs ++ encode_with t ys
unfolding encode_with
encode_with-append t [] ys = refl
encode_with-append t (x ∷ xs) ys = rw (encode_with-append t xs ys) refl

-- Writing the digits of a piece after those before it writes the digits of both.
pub appends-piece : (a b c : Option (List ℕ)) (xs ys : List ℕ) → Appends a b (encode_lower xs)
    → Appends b c (encode_lower ys) → Appends a c (encode_lower (xs ++ ys))
appends-piece a b c xs ys first second =
    rw (encode_with-append lower_digits xs ys) (Appends-trans a b c (encode_lower xs) (encode_lower ys) first second)

-- If a list is `done` and `rest`, and `rest` is cut after n elements, the list is `done` and the two parts.
pub cut_again : (xs done rest front back : List ℕ) (n : ℕ) → xs ≡ done ++ rest → front ≡ take n rest → back ≡ drop n rest
    → xs ≡ done ++ front ++ back
cut_again xs done rest front back n whole first second =
    whole ∙ ap (λ (r : List ℕ). done ++ r) (sym (rw (first, second) (take-append-drop n rest))) ∙ sym (append_assoc done front back)

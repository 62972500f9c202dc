-- Lemmas that what a function leaves of a text is an end of that text.
use Rattle.std.proofs.Common.{◌≡◌, ℕ, Bool, true, false, cond, List, [], ◌∷◌, ◌++◌, length, refl, sym, ap, subst, ◌∙◌}
use Rattle.std.specs.Bool.{◌==◌}
use Rattle.std.proofs.Math.Dec.{eqb-suc-zero}
use Rattle.std.proofs.lemmas.List.{append_assoc}
use Rattle.std.specs.Char.{is_ascii_whitespace}
use Rattle.std.specs.Str.{IsTrimAsciiStart}
use Rattle.postcard_schema_text.specs.Text.{unblank, TakesPhrase, IsSign}
use Rattle.postcard_schema_text.specs.FrontLemmas.{trim_is}
use Rattle.postcard_value_json_read.specs.Values.{IsEndOf}

-- A text is an end of itself.
pub whole_end : (a b : List ℕ) → b ≡ a → IsEndOf a b
whole_end a b same = ([], sym same)

-- An end of an end is an end.
pub end_of_end : (a b c : List ℕ) → IsEndOf a b → IsEndOf b c → IsEndOf a c
end_of_end a b c (x, e) (y, f) = (x ++ y, e ∙ ap (λ z. x ++ z) f ∙ sym (append_assoc x y c))

-- The text without its first byte.
pub byte_off : (text left rest : List ℕ) (b : ℕ) → IsEndOf text left → left ≡ b ∷ rest → IsEndOf text rest
byte_off text left rest b h e = end_of_end text left rest h (b ∷ [], e)

-- A text without its leading blanks is an end of it.
unblank_end : (s : List ℕ) → IsEndOf s (unblank s)
unblank_end [] = ([], refl)
unblank_end (b ∷ s) = by (is_ascii_whitespace b) (unblank_end s)
  where
    by : (blank : Bool) → IsEndOf s (unblank s) → IsEndOf (b ∷ s) (cond blank (unblank s) (b ∷ s))
    by true (x, e) = (b ∷ x, ap (λ z. b ∷ z) e)
    by false h = ([], refl)

-- The text without the blanks at its start.
pub blanks_off : (s r : List ℕ) → IsTrimAsciiStart s r → IsEndOf s r
blanks_off s r trim = subst (IsEndOf s) (sym (trim_is s r trim)) (unblank_end s)

-- The text after a sign, or the whole text if no sign is taken.
pub sign_off : (taken : Bool) (sign : ℕ) (old new : List ℕ) → (taken ≡ true → TakesPhrase (IsSign sign) old new) → (taken ≡ false → new ≡ old) → IsEndOf old new
sign_off true sign old new take left = let k = take refl in (k.0, k.2)
sign_off false sign old new take left = whole_end old new (left refl)

-- No element is left.
pub none_left : {A : Type 0} (xs : List A) → (length xs == 0) ≡ true → xs ≡ []
none_left [] e = refl
none_left (x ∷ xs) e = cc (sym (eqb-suc-zero (length xs)) ∙ e)

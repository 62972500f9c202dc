-- Where the `@` (64) and the colon (58) of a word `@FILE:NAME` or `@FILE` are: the first byte, and the last colon, if there is one.
use Rattle.std.proofs.Common.{◌≡◌, ℕ, Bor, Option, Some, None, List, ◌∷◌, ◌++◌, take, drop, sym, ap, subst, ◌∙◌, lit<}
use Rattle.std.specs.Prelude.{◌==◌, MatchOption}
use Rattle.std.specs.Str.{NoCharPasses}
use Rattle.std.specs.Str.Pattern.{RFindsChar, FindsCharPrefix, SplitsAroundMatch, StripsPrefix}
use Rattle.std.proofs.lemmas.List.{take-append-drop}
use Rattle.std.proofs.lemmas.Str.Pattern.{NoCharPasses-char, drop_at_char, strip_prefix_char}
use Rattle.pcard_files.specs.TypeName.{IsNameWord}

-- The contract of `strip_prefix` for the character `@`.
abbrev pub StripsAt : List ℕ → Option (Bor (List ℕ)) → Type 0
StripsAt word r = MatchOption r (FindsCharPrefix 64 word None) (λ x. StripsPrefix (FindsCharPrefix 64) word x.now)

-- The contract of `rsplit_once` for a colon.
abbrev pub SplitsAtColon : List ℕ → Option (Bor (List ℕ) × Bor (List ℕ)) → Type 0
SplitsAtColon inner r = MatchOption r (RFindsChar 58 inner None) (λ x. SplitsAroundMatch (RFindsChar 58) inner x.0.now x.1.now)

-- If `strip_prefix` gives bytes, the word is `@` and these bytes.
behind_at : (word : List ℕ) (r : Option (Bor (List ℕ))) (x : Bor (List ℕ)) → StripsAt word r → r ≡ Some x → word ≡ 64 ∷ x.now
behind_at word r x strips is = rw is at (strip_prefix_char 64 word r strips (lit< tt))

-- A word that names a type in a file begins with `@`.
begins_at : (word file : List ℕ) (name : Option (List ℕ)) → IsNameWord word file name → (rest : List ℕ) × (word ≡ 64 ∷ rest)
begins_at word file (Some name) (whole, free) = (file ++ 58 ∷ name, whole)
begins_at word file None (whole, free) = (file, whole)

-- If `strip_prefix` gives none, the word names no type in a file.
pub without_at : (word : List ℕ) (r : Option (Bor (List ℕ))) → StripsAt word r → r ≡ None → (file : List ℕ) (name : Option (List ℕ)) → IsNameWord word file name → ⊥
without_at word r strips is file name named =
    let none : (rest : List ℕ) → word ≡ 64 ∷ rest → ⊥ = rw is at (strip_prefix_char 64 word r strips (lit< tt)) in
    let (rest, whole) = begins_at word file name named in
    none rest whole

-- If bytes are split around their last colon, `@` and these bytes are `@FILE:NAME` with the two parts.
split_last : (inner front back : List ℕ) → SplitsAroundMatch (RFindsChar 58) inner front back → IsNameWord (64 ∷ inner) front (Some back)
split_last inner front back (i, j, (none, at), is_front, is_back, low, n, m) =
    let cut : drop i inner ≡ 58 ∷ drop j inner = drop_at_char 58 inner i j at (lit< tt) in
    let whole : inner ≡ front ++ 58 ∷ back = sym (take-append-drop i inner) ∙ ap (λ l. take i inner ++ l) cut ∙ ap (λ l. l ++ 58 ∷ drop j inner) (sym is_front) ∙ ap (λ l. front ++ 58 ∷ l) (sym is_back) in
    let free : NoCharPasses (λ d. d == 58) back = subst (NoCharPasses (λ d. d == 58)) (sym is_back) none in
    (ap (λ l. 64 ∷ l) whole, λ k less. NoCharPasses-char 58 back k free (lit< tt) less)

-- If `strip_prefix` and then `rsplit_once` give parts, the word is `@FILE:NAME` with these parts.
pub split_word : (word : List ℕ) (r : Option (Bor (List ℕ))) (x : Bor (List ℕ)) (s : Option (Bor (List ℕ) × Bor (List ℕ))) (y : Bor (List ℕ) × Bor (List ℕ))
    → StripsAt word r → r ≡ Some x → SplitsAtColon x.now s → s ≡ Some y → IsNameWord word y.0.now (Some y.1.now)
split_word word r x s y strips is splits found =
    let parts : SplitsAroundMatch (RFindsChar 58) x.now y.0.now y.1.now = rw found at splits in
    subst (λ w. IsNameWord w y.0.now (Some y.1.now)) (sym (behind_at word r x strips is)) (split_last x.now y.0.now y.1.now parts)

-- If `rsplit_once` gives no parts of what is after the `@`, that is the name of a file.
pub whole_word : (word : List ℕ) (r : Option (Bor (List ℕ))) (x : Bor (List ℕ)) (s : Option (Bor (List ℕ) × Bor (List ℕ)))
    → StripsAt word r → r ≡ Some x → SplitsAtColon x.now s → s ≡ None → IsNameWord word x.now None
whole_word word r x s strips is splits missing =
    let none : NoCharPasses (λ d. d == 58) x.now = rw missing at splits in
    (behind_at word r x strips is, λ k less. NoCharPasses-char 58 x.now k none (lit< tt) less)

-- How a path is split into its crate and module: at its last `/src/`, before its `.rt`, and at the last slash (47) before `/src/`.
use Rattle.std.proofs.Common.{◌≡◌, ℕ, inl, inr, List, [], ◌∷◌, ◌++◌, take, drop, refl, sym, ap, subst, ◌∙◌, lit<}
use Rattle.std.specs.Prelude.{Option, Some, None, MatchOption, ◌==◌, codes}
use Rattle.std.specs.Str.{NoCharPasses}
use Rattle.std.specs.Str.Pattern.{RFindsChar, RFindsText, FindsTextSuffix, SplitsAroundMatch, StripsSuffix}
use Rattle.std.proofs.lemmas.List.{take-append-drop, append_assoc}
use Rattle.std.proofs.lemmas.Str.Pattern.{drop_at_char}
use Rattle.pcard_impl.specs.Home.{IsHome}
use denote.Ref.{Bor}

-- If a text is split around the last place of n, it is the part before, n, and the part after.
around_text : (n s front back : List ℕ) → SplitsAroundMatch (RFindsText n) s front back → s ≡ front ++ (n ++ back)
around_text n s front back (i, j, (none, at), is_front, is_back, low, m, k) =
    sym (take-append-drop i s) ∙ ap (λ l. take i s ++ l) at.split ∙ ap (λ l. l ++ (n ++ drop j s)) (sym is_front) ∙ ap (λ l. front ++ (n ++ l)) (sym is_back)

-- If a text is split around its last slash, it is the part before, a slash, and a part after without a slash.
around_slash : (s front back : List ℕ) → SplitsAroundMatch (RFindsChar 47) s front back → (s ≡ front ++ 47 ∷ back) × NoCharPasses (λ d. d == 47) back
around_slash s front back (i, j, (none, at), is_front, is_back, low, m, k) =
    let cut : drop i s ≡ 47 ∷ drop j s = drop_at_char 47 s i j at (lit< tt) in
    let whole : s ≡ front ++ 47 ∷ back = sym (take-append-drop i s) ∙ ap (λ l. take i s ++ l) cut ∙ ap (λ l. l ++ 47 ∷ drop j s) (sym is_front) ∙ ap (λ l. front ++ 47 ∷ l) (sym is_back) in
    (whole, subst (NoCharPasses (λ d. d == 47)) (sym is_back) none)

-- If `strip_suffix` strips n from a text, the text is what is left and n.
before_end : (n s front : List ℕ) → StripsSuffix (FindsTextSuffix n) s front → s ≡ front ++ n
before_end n s front (k, (is_k, ends, cut), is_front, m) = ends ∙ ap (λ l. l ++ n) (sym is_front)

-- The contracts of `rsplit_once` for a text and for a slash, and of `strip_suffix` for a text.
abbrev pub SplitsText : List ℕ → List ℕ → Option (Bor (List ℕ) × Bor (List ℕ)) → Type 0
SplitsText n s r = MatchOption r (RFindsText n s None) (λ x. SplitsAroundMatch (RFindsText n) s x.0.now x.1.now)

abbrev pub SplitsSlash : List ℕ → Option (Bor (List ℕ) × Bor (List ℕ)) → Type 0
SplitsSlash s r = MatchOption r (RFindsChar 47 s None) (λ x. SplitsAroundMatch (RFindsChar 47) s x.0.now x.1.now)

abbrev pub StripsText : List ℕ → List ℕ → Option (Bor (List ℕ)) → Type 0
StripsText n s r = MatchOption r (FindsTextSuffix n s None) (λ x. StripsSuffix (FindsTextSuffix n) s x.now)

-- If a slash is before `/src/`, the crate's name is what is between them, and the path is that of its module.
pub home_within : (path : List ℕ) (r : Option (Bor (List ℕ) × Bor (List ℕ))) (x : Bor (List ℕ) × Bor (List ℕ)) (m : Option (Bor (List ℕ))) (y : Bor (List ℕ))
    (f : Option (Bor (List ℕ) × Bor (List ℕ))) (z : Bor (List ℕ) × Bor (List ℕ))
    → SplitsText (codes "/src/") path r → r ≡ Some x → StripsText (codes ".rt") x.1.now m → m ≡ Some y → SplitsSlash x.0.now f → f ≡ Some z
    → IsHome path z.1.now y.now
home_within path r x m y f z splits is_x strips is_y slash is_z =
    let parts : SplitsAroundMatch (RFindsText (codes "/src/")) path x.0.now x.1.now = rw is_x at splits in
    let ends : StripsSuffix (FindsTextSuffix (codes ".rt")) x.1.now y.now = rw is_y at strips in
    let folders : SplitsAroundMatch (RFindsChar 47) x.0.now z.0.now z.1.now = rw is_z at slash in
    let (whole, free) = around_slash x.0.now z.0.now z.1.now folders in
    let rest : List ℕ = codes "/src/" ++ (y.now ++ codes ".rt") in
    let file : path ≡ x.0.now ++ rest = around_text (codes "/src/") path x.0.now x.1.now parts ∙ ap (λ l. x.0.now ++ (codes "/src/" ++ l)) (before_end (codes ".rt") x.1.now y.now ends) in
    let joined : path ≡ (z.0.now ++ 47 ∷ []) ++ (z.1.now ++ rest) =
    file ∙ ap (λ l. l ++ rest) whole ∙ append_assoc z.0.now (47 ∷ z.1.now) rest ∙ sym (append_assoc z.0.now (47 ∷ []) (z.1.now ++ rest)) in
    (z.0.now ++ 47 ∷ [], inr (z.0.now, refl), joined, free)

-- If no slash is before `/src/`, the crate's name is all that is before it, and the path is that of its module.
pub home_alone : (path : List ℕ) (r : Option (Bor (List ℕ) × Bor (List ℕ))) (x : Bor (List ℕ) × Bor (List ℕ)) (m : Option (Bor (List ℕ))) (y : Bor (List ℕ))
    (f : Option (Bor (List ℕ) × Bor (List ℕ)))
    → SplitsText (codes "/src/") path r → r ≡ Some x → StripsText (codes ".rt") x.1.now m → m ≡ Some y → SplitsSlash x.0.now f → f ≡ None
    → IsHome path x.0.now y.now
home_alone path r x m y f splits is_x strips is_y slash is_none =
    let parts : SplitsAroundMatch (RFindsText (codes "/src/")) path x.0.now x.1.now = rw is_x at splits in
    let ends : StripsSuffix (FindsTextSuffix (codes ".rt")) x.1.now y.now = rw is_y at strips in
    let free : NoCharPasses (λ d. d == 47) x.0.now = rw is_none at slash in
    ([], inl refl, around_text (codes "/src/") path x.0.now x.1.now parts ∙ ap (λ l. x.0.now ++ (codes "/src/" ++ l)) (before_end (codes ".rt") x.1.now y.now ends), free)

-- Lemmas on the parts of lines.
use Rattle.std.proofs.Common.{◌≡◌, ℕ, ◌<◌, List, [], ◌∷◌, ◌++◌, length, arith, sym, ap, ◌∙◌, codes, append_assoc}
use Rattle.std.specs.Fmt.{decimal}
use Rattle.hex.specs.Hex.{encode_lower}
use Rattle.pcard_print.specs.Lines.{more_text, noun_of}

-- The words for the bytes after a value.
pub more_said : (rest noun digits : List ℕ) → 0 < length rest → noun ≡ noun_of (length rest) → digits ≡ encode_lower rest
    → codes " and " ++ (decimal (length rest) ++ (codes " " ++ (noun ++ (codes " more: " ++ digits)))) ≡ more_text rest
more_said [] noun digits some is hex = absurd (omega arith)
more_said (b ∷ rest) noun digits some is hex =
    let n = decimal (length (b ∷ rest)) in
    let noun_is = noun_of (length (b ∷ rest)) in
    let e = encode_lower (b ∷ rest) in
    ap (λ (t : List ℕ). codes " and " ++ (n ++ (codes " " ++ (t ++ (codes " more: " ++ digits))))) is
    ∙ ap (λ (t : List ℕ). codes " and " ++ (n ++ (codes " " ++ (noun_is ++ (codes " more: " ++ t))))) hex
    ∙ ap (λ (t : List ℕ). codes " and " ++ (n ++ (codes " " ++ t))) (sym (append_assoc noun_is (codes " more: ") e))
    ∙ ap (λ (t : List ℕ). codes " and " ++ t) (sym (append_assoc n (codes " " ++ (noun_is ++ codes " more: ")) e))

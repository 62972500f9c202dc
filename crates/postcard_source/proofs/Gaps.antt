-- Texts that begin with no gap or no lifetime, and texts that are or aren't a word. The bytes: 39 is `'`, 42 is `*`, 47 is `/`.
use Rattle.std.proofs.Common.{◌≡◌, ℕ, List, [], ◌∷◌, ◌++◌, length, sym, ap, subst, ◌∙◌, arith, inl, inr, ◌⊎◌}
use Rattle.std.proofs.lemmas.List.{append-nil}
use Rattle.std.specs.List.{AllPass}
use Rattle.postcard_source.specs.Tokens.{is_of_word, EndsWord, IsWordFront}
use Rattle.postcard_source.proofs.Runs.{one_run}
use Rattle.postcard_source.specs.Lexical.{Begins, BeginsBy, IsBlank, IsLifetime, IsGap}

-- A text begins with no lifetime if no name follows its quote, or if a second quote follows the name.
pub no_lifetime : (text inner name after rest : List ℕ) → text ≡ 39 ∷ inner → IsWordFront name inner after → (length name ≡ 0) ⊎ BeginsBy 39 after → IsLifetime text rest → ⊥
unfolding IsLifetime
no_lifetime text inner name after rest is front stops (i, n, a, begins, (pass, ends, whole), filled, no_quote, comma) =
    let same : inner ≡ i = let e = sym is ∙ begins in cc in
    let both = one_run is_of_word name n after a front.0 pass front.1 ends (sym front.2 ∙ same ∙ whole) in
    elim stops as (λ _. ⊥) [
      | inl none ↦ (let short : length n ≡ 0 = ap length (sym both.0) ∙ none in absurd (omega (arith, short, filled)))
      | inr quote ↦ no_quote (subst (BeginsBy 39) both.1 quote)
    ]

-- A text that begins with no blank, no `//`, no lifetime and no `/*` begins with no gap.
pub no_gap : (text : List ℕ) → ((rest : List ℕ) → IsBlank text rest → ⊥) → (Begins 47 47 text → ⊥) → ((rest : List ℕ) → IsLifetime text rest → ⊥) → (Begins 47 42 text → ⊥)
    → (rest : List ℕ) → IsGap text rest → ⊥
unfolding IsGap
no_gap text no_blank no_line no_life no_comment rest (inl blank) = no_blank rest blank
no_gap text no_blank no_line no_life no_comment rest (inr (inl (line, is, plain, end))) = no_line (line ++ rest, is)
no_gap text no_blank no_line no_life no_comment rest (inr (inr (inl life))) = no_life rest life
no_gap text no_blank no_line no_life no_comment rest (inr (inr (inr (inner, is, steps)))) = no_comment (inner, is)

-- If nothing is left after the word that begins a text, all bytes of the text may be part of a word.
pub word_alone : (word text rest : List ℕ) → length rest ≡ 0 → IsWordFront word text rest → AllPass is_of_word text
word_alone word text [] none (pass, ends, whole) = subst (AllPass is_of_word) (sym (whole ∙ append-nil word)) pass
word_alone word text (b ∷ rest) none (pass, ends, whole) = absurd (omega (arith, none))

-- If all bytes of a text may be part of a word, nothing is left after the word that begins it.
pub alone_word : (word text rest : List ℕ) → IsWordFront word text rest → AllPass is_of_word text → length rest ≡ 0
alone_word word text rest (pass, ends, whole) all =
    let both = one_run is_of_word word text rest [] pass all ends tt (sym whole ∙ sym (append-nil text)) in ap length both.1

-- If the word that begins a text is empty, the text doesn't begin with a byte of a word.
pub no_word : (word text after : List ℕ) → length word ≡ 0 → IsWordFront word text after → EndsWord text
no_word [] text after none (pass, ends, whole) = subst EndsWord (sym whole) ends
no_word (b ∷ word) text after none front = absurd (omega (arith, none))

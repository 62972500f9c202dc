-- The letters of a literal, and the literal with its quotes, are a front of the text.
use Rattle.std.proofs.Common.{◌≡◌, ℕ, ◌-◌, List, [], ◌∷◌, ◌++◌, length, take, refl, sym, ap, ◌∙◌, append_assoc, length-append, arith, inl, inr}
use Rattle.std.proofs.lemmas.List.{take_at}
use Rattle.postcard_source.specs.Steps.{Steps, none, more}
use Rattle.postcard_source.specs.Lexical.{IsLetter, IsQuoted}

-- If a text begins with a letter, it is some front and then what is left.
letter_front : (text rest : List ℕ) → IsLetter text rest → (front : List ℕ) × (text ≡ front ++ rest)
letter_front text rest (b, inl (other, e)) = (b ∷ [], e)
letter_front text rest (b, inr e) = (92 ∷ b ∷ [], e)

-- If a text begins with letters that aren't the quote, it is some front and then what is left.
pub letters_front : (quote : ℕ) (text last : List ℕ) → Steps (λ a b. IsLetter a b × ((after : List ℕ) → a ≡ quote ∷ after → ⊥)) text last → (front : List ℕ) × (text ≡ front ++ last)
letters_front quote text last none = ([], refl)
letters_front quote text last (more {s} {t} before step) =
    let (f, e) = letters_front quote text s before in
    let (g, h) = letter_front s t step.0 in
    (f ++ g, e ∙ ap (λ r. f ++ r) h ∙ sym (append_assoc f g t))

-- If a text begins with a literal in quotes, it is some front and then what is left.
pub quoted_front : (quote : ℕ) (text inner rest : List ℕ) → text ≡ quote ∷ inner → IsQuoted quote inner rest → (front : List ℕ) × (text ≡ front ++ rest)
quoted_front quote text inner rest whole (last, letters, end) =
    let (f, e) = letters_front quote inner last letters in
    (quote ∷ f ++ quote ∷ [], whole ∙ ap (λ r. quote ∷ r) (e ∙ ap (λ r. f ++ r) end ∙ sym (append_assoc f (quote ∷ []) rest)))

-- A front before `rest` is the first bytes of the text, as many as the text is longer than `rest`.
pub front_taken : (text front rest : List ℕ) → text ≡ front ++ rest → text ≡ take (length text - length rest) text ++ rest
front_taken text front rest e =
    let size : length text - length rest ≡ length front = let all = ap length e ∙ length-append front rest in omega (arith, all) in
    let is : take (length text - length rest) text ≡ front = ap (λ n. take n text) size ∙ ap (take (length front)) e ∙ take_at front rest (length front) refl in
    e ∙ ap (λ f. f ++ rest) (sym is)

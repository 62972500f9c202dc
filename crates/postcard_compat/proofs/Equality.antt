-- Lists of words that say the same have equal words at each place.
use Rattle.std.proofs.Common.{◌≡◌, ℕ, zero, suc, ◌<◌, List, [], ◌∷◌, length, get_or, sym, ap, ◌∙◌, arith}
use Rattle.std.proofs.lemmas.List.{length-map}
use Rattle.postcard_compat.specs.Telling.{word_of, words_of}
use Rattle.postcard_compat.specs.Said.{Word, End}
use Rattle.postcard_compat.specs.declared.word.Word.{Word as Spoken}

-- The first word of a list, or `End`.
abbrev head : List Word → Word
head [] = End
head (w ∷ ws) = w

-- The words after the first.
abbrev tail : List Word → List Word
tail [] = []
tail (w ∷ ws) = ws

pub same_length : (xs ys : List Spoken) → words_of xs ≡ words_of ys → length xs ≡ length ys
same_length xs ys e = sym (length-map xs word_of) ∙ (ap length e ∙ length-map ys word_of)

pub same_at : (xs ys : List Spoken) (k : ℕ) (x y : Spoken) → k < length xs → x ≡ get_or xs k x → k < length ys → y ≡ get_or ys k y
    → words_of xs ≡ words_of ys → word_of x ≡ word_of y
same_at [] ys k x y low is below at e = absurd (omega (arith, low))
same_at (a ∷ xs) [] k x y low is below at e = absurd (omega (arith, below))
same_at (a ∷ xs) (b ∷ ys) zero x y low is below at e = ap word_of is ∙ (ap head e ∙ sym (ap word_of at))
same_at (a ∷ xs) (b ∷ ys) (suc k) x y low is below at e = same_at xs ys k x y (omega (arith, low)) is (omega (arith, below)) at (ap tail e)

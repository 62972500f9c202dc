-- Which texts begin with no raw literal, and that a raw literal is a front of its text. The byte 34 is `"`.
use Rattle.std.proofs.Common.{◌≡◌, ℕ, List, [], ◌∷◌, ◌++◌, length, take, refl, sym, ap, subst, ◌∙◌, append_assoc}
use Rattle.std.proofs.lemmas.List.{take_at}
use Rattle.postcard_source.specs.Steps.{Steps, none, more}
use Rattle.postcard_source.specs.Tokens.{is_of_word, IsWordFront}
use Rattle.postcard_source.proofs.Runs.{one_run}
use Rattle.postcard_source.specs.Raw.{is_hash, IsHashFront, IsRawPrefix, IsRawOpening, IsRawQuoted}

-- If the word that begins a text isn't `r`, `br` or `cr`, the text begins with no raw literal.
pub no_prefix : (word after text hashes inner : List ℕ) → IsWordFront word text after → (IsRawPrefix word → ⊥) → IsRawOpening hashes text inner → ⊥
no_prefix word after text hashes inner (pass, ends, whole) other (v, q, is, (pass', ends', whole'), front) =
    let both = one_run is_of_word v word q after pass' pass ends' ends (sym whole' ∙ whole) in other (subst IsRawPrefix both.0 is)

-- If no quote follows the word and the `#` that begin a text, the text begins with no raw literal.
pub no_quote : (word after text run quoted hashes inner : List ℕ) → IsWordFront word text after → IsHashFront run after quoted → ((rest : List ℕ) → quoted ≡ 34 ∷ rest → ⊥)
    → IsRawOpening hashes text inner → ⊥
no_quote word after text run quoted hashes inner (pass, ends, whole) (all, stops, runs) unquoted (v, q, is, (pass', ends', whole'), (all', stops', runs')) =
    let both = one_run is_of_word v word q after pass' pass ends' ends (sym whole' ∙ whole) in
    let same = one_run is_hash run hashes quoted (34 ∷ inner) all all' stops stops' (sym runs ∙ sym both.1 ∙ runs') in
    unquoted inner same.1

-- If a text is a front and `middle`, and `middle` is bytes and `rest`, the text is a longer front and `rest`.
front_more : (text front middle rest : List ℕ) → text ≡ front ++ middle → ((next : List ℕ) × (middle ≡ next ++ rest)) → (whole : List ℕ) × (text ≡ whole ++ rest)
front_more text front middle rest e (next, f) = (front ++ next, e ∙ ap (λ t. front ++ t) f ∙ sym (append_assoc front next rest))

-- If a text begins with the letters of a raw literal, it is some front and then what is left.
pub raw_letters : (hashes text last : List ℕ) → Steps (λ a b. ((letter : ℕ) × (a ≡ letter ∷ b)) × ((after : List ℕ) → a ≡ 34 ∷ hashes ++ after → ⊥)) text last
    → (front : List ℕ) × (text ≡ front ++ last)
raw_letters hashes text last none = ([], refl)
raw_letters hashes text last (more {s} {t} before ((letter, e), no_end)) =
    let (f, whole) = raw_letters hashes text s before in front_more text f s t whole (letter ∷ [], e)

-- If a text begins with a raw literal, it is some front and then what is left.
pub raw_front_of : (hashes text inner rest : List ℕ) → IsRawOpening hashes text inner → IsRawQuoted hashes inner rest → (front : List ℕ) × (text ≡ front ++ rest)
raw_front_of hashes text inner rest (word, after, is, (pass, ends, whole), (all, stops, runs)) (last, letters, end) =
    front_more text word after rest whole (front_more after hashes (34 ∷ inner) rest runs (front_more (34 ∷ inner) (34 ∷ []) inner rest refl
    (let (f, e) = raw_letters hashes inner last letters in front_more inner f last rest e (34 ∷ hashes, end))))

-- If the first n bytes of a text are these n bytes, the text begins with them.
pub begins_by : (text bytes front rest : List ℕ) (n : ℕ) → n ≡ length bytes → front ≡ take n text → front ≡ bytes → text ≡ front ++ rest → text ≡ bytes ++ rest
begins_by text bytes front rest n size is same whole = whole ∙ ap (λ t. t ++ rest) same

-- If the first n bytes of a text aren't these n bytes, the text doesn't begin with them.
pub begins_not : (text bytes front rest : List ℕ) (n : ℕ) → n ≡ length bytes → front ≡ take n text → (front ≡ bytes → ⊥) → text ≡ bytes ++ rest → ⊥
begins_not text bytes front rest n size is other whole = other (is ∙ ap (λ t. take n t) whole ∙ take_at bytes rest n (sym size))

-- Lemmas on phrases of a text: blanks before a phrase, and two phrases in a row.
use Rattle.std.proofs.Common.{◌≡◌, ℕ, ◌-◌, ◌<◌, ◌≤◌, Bool, true, List, [], ◌∷◌, ◌++◌, length, get_or, take, refl, sym, ap, ◌∙◌, arith, ◌⊎◌, inl, inr}
use Rattle.std.proofs.lemmas.Grind.{common_steps}
use Rattle.std.proofs.lemmas.List.{append_assoc, take-append-drop, get_or-take, get_or_default, get_or_append_left, get_or-append_right}
use Rattle.std.proofs.lemmas.List.Sums.{sum_by-take-le}
use Rattle.std.specs.List.{AllPass}
use Rattle.std.specs.Str.{IsTrimAsciiStart}
use Rattle.std.specs.Char.{is_ascii_whitespace}
use Rattle.postcard_schema_text.specs.Text.{characters, AreBlank, Led, Then, TakesPhrase, IsSign, IsWord}

-- If each of the first n elements passes, the list of them passes.
pub all_take : (p : ℕ → Bool) (n : ℕ) (xs : List ℕ) → n ≤ length xs → ((i : ℕ) → i < n → p (get_or xs i 0) ≡ true) → AllPass p (take n xs)
all_take p n xs low each k d inside =
    let here : k < n = grind (arith, common_steps, inside) in
    ap p (get_or-take n xs k d here ∙ get_or_default xs k d 0 (omega (arith, here, low))) ∙ each k here

-- Trimming the start of a text takes blanks.
pub trim_takes : (s r : List ℕ) → IsTrimAsciiStart s r → TakesPhrase AreBlank s r
trim_takes s r (n, cut, size, below, next) =
    (take n s, all_take is_ascii_whitespace n s (omega (arith, size)) below, rw cut (sym (take-append-drop n s)))

-- Taking one phrase and then another takes the two in a row.
pub takes_two : (P Q : List ℕ → Type 0) (a b c : List ℕ) → TakesPhrase P a b → TakesPhrase Q b c → TakesPhrase (Then P Q) a c
takes_two P Q a b c (x, p, e) (y, q, f) = (x ++ y, (x, y, p, q, refl), e ∙ ap (λ r. x ++ r) f ∙ sym (append_assoc x y c))

-- If each phrase of P is one of Q, taking a phrase of P takes one of Q.
pub takes_as : (P Q : List ℕ → Type 0) (a b : List ℕ) → ((t : List ℕ) → P t → Q t) → TakesPhrase P a b → TakesPhrase Q a b
takes_as P Q a b f (x, p, e) = (x, f x p, e)

-- Of two numbers the first is less, or the second is at most the first.
lt_or_le : (k n : ℕ) → (k < n) ⊎ (n ≤ k)
lt_or_le k n = grind arith

-- Blanks followed by blanks are blanks.
pub more_blank : (a b : List ℕ) → AreBlank a → AreBlank b → AreBlank (a ++ b)
more_blank a b first second k d inside = elim (lt_or_le k (length a)) [
  | inl low ↦ ap is_ascii_whitespace (get_or_append_left a b d k low) ∙ first k d low
  | inr high ↦
      let there : k - length a < length b = grind (arith, common_steps, inside, high) in
      ap is_ascii_whitespace (get_or-append_right a b (length a) k d refl high) ∙ second (k - length a) d there
]

-- Taking blanks and then a phrase after blanks takes that phrase after blanks.
pub led_more : (P : List ℕ → Type 0) (a b c : List ℕ) → TakesPhrase AreBlank a b → TakesPhrase (Led P) b c → TakesPhrase (Led P) a c
led_more P a b c (x, blank, e) (y, (u, v, more, p, f), g) =
    (x ++ y, (x ++ u, v, more_blank x u blank more, p, ap (λ r. x ++ r) f ∙ sym (append_assoc x u v)), e ∙ ap (λ r. x ++ r) g ∙ sym (append_assoc x y c))

-- Taking blanks and then a phrase takes the phrase after blanks.
pub led : (P : List ℕ → Type 0) (a b c : List ℕ) → TakesPhrase AreBlank a b → TakesPhrase P b c → TakesPhrase (Led P) a c
led P a b c (x, blank, e) (y, p, f) = (x ++ y, (x, y, blank, p, refl), e ∙ ap (λ r. x ++ r) f ∙ sym (append_assoc x y c))

-- Taking blanks and then a word takes the word.
pub word_more : (word a b c : List ℕ) → IsTrimAsciiStart a b → TakesPhrase (IsWord word) b c → TakesPhrase (IsWord word) a c
word_more word a b c trim (x, (pass, h), e) =
    takes_as (Led (λ phrase. phrase ≡ word)) (IsWord word) a c (λ t k. (pass, k)) (led_more (λ phrase. phrase ≡ word) a b c (trim_takes a b trim) (x, h, e))

-- If a sign follows the blanks at the start of a text, it is taken after them.
pub sign_takes : (sign : ℕ) (s r after : List ℕ) → IsTrimAsciiStart s r → r ≡ sign ∷ after → TakesPhrase (IsSign sign) s after
sign_takes sign s r after trim first = led (λ phrase. phrase ≡ sign ∷ []) s r after (trim_takes s r trim) (sign ∷ [], refl, first)

-- A prefix of a text has no more characters than the whole text.
pub characters_take : (n : ℕ) (text : List ℕ) → characters (take n text) ≤ characters text
characters_take n text = sum_by-take-le _ text n

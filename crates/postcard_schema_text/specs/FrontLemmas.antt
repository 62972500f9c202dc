-- Lemmas on prefixes of a text: at most one sign, or one whole word, is next after blanks.
use Rattle.std.proofs.Common.{◌≡◌, ℕ, zero, suc, ◌+◌, ◌<◌, Bool, true, false, cond, List, [], ◌∷◌, ◌++◌, length, get_or, drop, refl, sym, ap, subst, ◌∙◌, true≢false, arith, inl, inr}
use Rattle.std.proofs.lemmas.Bool.Decides.{nat_tests}
use Rattle.std.proofs.lemmas.List.{append_assoc}
use Rattle.std.proofs.lemmas.Str.{IsUtf8-from_ascii}
use Rattle.std.proofs.lemmas.Str.Ascii.{trim_ascii_start_is, IsAscii-from_all}
use Rattle.std.specs.List.{AllPass, prefix_len}
use Rattle.std.specs.Str.{IsTrimAsciiStart, IsUtf8}
use Rattle.std.specs.Char.{is_ascii_whitespace}
use Rattle.postcard_schema_text.specs.Text.{unblank, AreBlank, Led, Then, TakesPhrase, IsSign, IsWord, is_of_word, EndsWord, GoesOnBy}

-- The first byte passes a test that all bytes pass.
pub pass_head : (p : ℕ → Bool) (x : ℕ) (xs : List ℕ) → AllPass p (x ∷ xs) → p x ≡ true
pass_head p x xs h = h 0 x (omega arith)

-- The bytes after the first pass it, too.
pub pass_tail : (p : ℕ → Bool) (x : ℕ) (xs : List ℕ) → AllPass p (x ∷ xs) → AllPass p xs
pass_tail p x xs h k d low = h (suc k) d (omega (arith, low))

-- One step of dropping blanks: if the first byte is one, those after it follow, and else nothing is dropped.
drop_one : (x : Bool) (n b : ℕ) (text rest : List ℕ) → drop n text ≡ rest → drop (cond x (1 + n) 0) (b ∷ text) ≡ cond x rest (b ∷ text)
drop_one true n b text rest h = let e : 1 + n ≡ suc n = omega arith in ap (λ k. drop k (b ∷ text)) e ∙ h
drop_one false n b text rest h = refl

-- Dropping all leading blanks is `unblank`.
drop_blanks : (text : List ℕ) → drop (prefix_len is_ascii_whitespace text) text ≡ unblank text
drop_blanks [] = refl
drop_blanks (b ∷ text) = drop_one (is_ascii_whitespace b) (prefix_len is_ascii_whitespace text) b text (unblank text) (drop_blanks text)

-- Trimming the start of a text takes the blanks from it.
pub trim_is : (s r : List ℕ) → IsTrimAsciiStart s r → r ≡ unblank s
trim_is s r h = trim_ascii_start_is s r h ∙ drop_blanks s

-- Further blanks before a text change nothing of the text without them.
pub unblank_more : (blanks text : List ℕ) → AreBlank blanks → unblank (blanks ++ text) ≡ unblank text
unblank_more [] text h = refl
unblank_more (b ∷ blanks) text h =
    let e : is_ascii_whitespace b ≡ true = pass_head is_ascii_whitespace b blanks h in
    rw e (unblank_more blanks text (pass_tail is_ascii_whitespace b blanks h))

-- A text of blanks alone has nothing without them.
pub unblank_all : (blanks : List ℕ) → AreBlank blanks → unblank blanks ≡ []
unblank_all [] h = refl
unblank_all (b ∷ blanks) h =
    let e : is_ascii_whitespace b ≡ true = pass_head is_ascii_whitespace b blanks h in
    rw e (unblank_all blanks (pass_tail is_ascii_whitespace b blanks h))

-- A text that begins with no blank is itself.
pub unblank_black : (x : ℕ) (text : List ℕ) → is_ascii_whitespace x ≡ false → unblank (x ∷ text) ≡ x ∷ text
unblank_black x text e = rw e refl

-- A byte of a word is no blank.
pub word_black : (x : ℕ) → is_of_word x ≡ true → is_ascii_whitespace x ≡ false
word_black x h = grind (arith, nat_tests)

-- What is left of a text after blanks and a phrase is the text without its blanks after that phrase.
pub led_unblank : (word text rest : List ℕ) → TakesPhrase (Led (λ phrase. phrase ≡ word)) text rest → unblank text ≡ unblank (word ++ rest)
led_unblank word text rest (front, (blanks, phrase, blank, is, e), whole) =
    let all : text ≡ blanks ++ (word ++ rest) = whole ∙ ap (λ t. t ++ rest) (e ∙ ap (λ t. blanks ++ t) is) ∙ append_assoc blanks word rest in
    ap unblank all ∙ unblank_more blanks (word ++ rest) blank

-- A text that begins with a sign begins with it once the blanks are dropped.
pub sign_unblank : (sign : ℕ) (text rest : List ℕ) → is_ascii_whitespace sign ≡ false → TakesPhrase (IsSign sign) text rest → unblank text ≡ sign ∷ rest
sign_unblank sign text rest black h = led_unblank (sign ∷ []) text rest h ∙ unblank_black sign rest black

-- The sign that is next is the first byte of the trimmed text.
pub next_sign : (sign : ℕ) (text trimmed rest : List ℕ) → IsTrimAsciiStart text trimmed → is_ascii_whitespace sign ≡ false
    → TakesPhrase (IsSign sign) text rest → trimmed ≡ sign ∷ rest
next_sign sign text trimmed rest trim black h = trim_is text trimmed trim ∙ sign_unblank sign text rest black h

-- The bytes of a word that is next, and of the text after it.
pub word_unblank : (x : ℕ) (word text rest : List ℕ) → TakesPhrase (IsWord (x ∷ word)) text rest → unblank text ≡ x ∷ word ++ rest
word_unblank x word text rest (front, (pass, led), whole) =
    led_unblank (x ∷ word) text rest (front, led, whole) ∙ unblank_black x (word ++ rest) (word_black x (pass_head is_of_word x word pass))

-- Two phrases in a row are taken one after the other.
pub takes_split : (P Q : List ℕ → Type 0) (a c : List ℕ) → TakesPhrase (Then P Q) a c → (b : List ℕ) × TakesPhrase P a b × TakesPhrase Q b c
takes_split P Q a c (front, (x, y, p, q, e), whole) = (y ++ c, (x, p, whole ∙ ap (λ t. t ++ c) e ∙ append_assoc x y c), (y, q, refl))

-- Equal lists have equal first bytes,
pub same_first : {x y : ℕ} {xs ys : List ℕ} → x ∷ xs ≡ y ∷ ys → x ≡ y
same_first e = cc

-- and equal remaining bytes.
pub same_rest : {x y : ℕ} {xs ys : List ℕ} → x ∷ xs ≡ y ∷ ys → xs ≡ ys
same_rest e = cc

-- An empty list has no first byte.
pub not_empty : {x : ℕ} {xs : List ℕ} → [] ≡ x ∷ xs → ⊥
not_empty e = cc

-- Two words in a text are the same if none goes on.
pub one_word : (w v r q : List ℕ) → AllPass is_of_word w → AllPass is_of_word v → EndsWord r → EndsWord q → w ++ r ≡ v ++ q → (w ≡ v) × (r ≡ q)
one_word [] [] r q f g h k e = (refl, e)
one_word [] (y ∷ v) r q f g h k e = absurd (true≢false (sym (pass_head is_of_word y v g) ∙ subst EndsWord e h))
one_word (x ∷ w) [] r q f g h k e = absurd (true≢false (sym (pass_head is_of_word x w f) ∙ subst EndsWord (sym e) k))
one_word (x ∷ w) (y ∷ v) r q f g h k e =
    let rest = one_word w v r q (pass_tail is_of_word x w f) (pass_tail is_of_word y v g) h k (same_rest e) in
    (ap (λ z. z ∷ w) (same_first e) ∙ ap (λ z. y ∷ z) rest.0, rest.1)

-- A blank is no byte of a word.
pub blank_ends : (b : ℕ) → is_ascii_whitespace b ≡ true → is_of_word b ≡ false
blank_ends b h = grind (arith, nat_tests)

-- A text that begins with a sign, after blanks or none, goes on with no word.
pub sign_ends_word : (sign : ℕ) (text rest : List ℕ) → is_of_word sign ≡ false → TakesPhrase (IsSign sign) text rest → EndsWord text
sign_ends_word sign text rest none (front, ([], phrase, blank, is, e), whole) =
    let all : text ≡ sign ∷ rest = whole ∙ ap (λ t. t ++ rest) (e ∙ is) in
    rw all none
sign_ends_word sign text rest none (front, (b ∷ blanks, phrase, blank, is, e), whole) =
    let all : text ≡ b ∷ (blanks ++ phrase) ++ rest = whole ∙ ap (λ t. t ++ rest) e in
    rw all (blank_ends b (pass_head is_ascii_whitespace b blanks blank))

-- Blanks go on with no word.
pub blanks_end_word : (text : List ℕ) → AreBlank text → EndsWord text
blanks_end_word [] h = tt
blanks_end_word (b ∷ text) h = blank_ends b (pass_head is_ascii_whitespace b text h)

-- What goes on by signs that are no bytes of a word goes on with no word.
pub goes_on_ends_word : (passes : ℕ → Bool) (text : List ℕ) → ((b : ℕ) → passes b ≡ true → is_of_word b ≡ false) → GoesOnBy passes text → EndsWord text
goes_on_ends_word passes text none (inl blank) = blanks_end_word text blank
goes_on_ends_word passes text none (inr (sign, after, pass, h)) = sign_ends_word sign text after (none sign pass) h

-- What goes on by signs that pass goes on with no sign that doesn't.
pub goes_on_not_by : (passes : ℕ → Bool) (sign : ℕ) (text rest : List ℕ) → ((b : ℕ) → passes b ≡ true → is_ascii_whitespace b ≡ false)
    → is_ascii_whitespace sign ≡ false → passes sign ≡ false → GoesOnBy passes text → unblank text ≡ sign ∷ rest → ⊥
goes_on_not_by passes sign text rest blacks black none (inl blank) first = not_empty (sym (unblank_all text blank) ∙ first)
goes_on_not_by passes sign text rest blacks black none (inr (other, after, pass, h)) first =
    let same = same_first (sym (sign_unblank other text after (blacks other pass) h) ∙ first) in
    true≢false (sym pass ∙ ap passes same ∙ none)

-- The text at n doesn't go on with a word if the byte there is none of a word, or the text ends.
pub ends_at : (n : ℕ) (text : List ℕ) → (n < length text → is_of_word (get_or text n 0) ≡ false) → EndsWord (drop n text)
ends_at zero [] h = tt
ends_at zero (b ∷ text) h = h (omega arith)
ends_at (suc n) [] h = tt
ends_at (suc n) (b ∷ text) h = ends_at n text (λ low. h (omega (arith, low)))

-- A byte of a word is ASCII.
word_ascii : (b : ℕ) → is_of_word b ≡ true → b < 128
word_ascii b h = grind (arith, nat_tests)

-- The facts of a word that was taken whole.
pub record WordTaken (text word after : List ℕ) : Type 0 where
  pub bytes : AllPass is_of_word word
  pub first : unblank text ≡ word ++ after
  pub ends : EndsWord after

-- What the clauses of `take_word` say, as one fact.
pub word_taken : {text word after : List ℕ} → TakesPhrase (IsWord word) text after
    → ((trimmed : List ℕ) × IsTrimAsciiStart text trimmed × (trimmed ≡ word ++ after)) → EndsWord after → WordTaken text word after
word_taken {text} {word} {after} (front, (pass, led), whole) (trimmed, trim, e) ends = record { bytes = pass; first = sym (trim_is text trimmed trim) ∙ e; ends = ends }

-- A word that is next, and that doesn't go on, is the whole word that was taken.
pub same_word : (x : ℕ) (word v text after rest : List ℕ) → WordTaken text v after → TakesPhrase (IsWord (x ∷ word)) text rest → EndsWord rest
    → (x ∷ word ≡ v) × (rest ≡ after)
same_word x word v text after rest taken (front, (pass, led), whole) ends =
    one_word (x ∷ word) v rest after pass taken.bytes ends taken.ends (sym (word_unblank x word text rest (front, (pass, led), whole)) ∙ taken.first)

-- The bytes of a word are UTF-8.
pub word_utf8 : (word : List ℕ) → AllPass is_of_word word → IsUtf8 word
word_utf8 word pass = IsUtf8-from_ascii word (IsAscii-from_all word (λ k d inside. word_ascii (get_or word k d) (pass k d inside)))

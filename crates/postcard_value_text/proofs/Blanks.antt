-- Blanks before a value without parts, or before a field's name: they may come before its text, and its text may stand without them. Only
-- one form of a name can stand at one place, and one text remains after it.
use Rattle.std.proofs.Common.{◌≡◌, ℕ, ◌<◌, false, List, [], ◌∷◌, length, codes, refl, ◌∙◌, arith, inl, inr, ◌≢◌, Bor, ◌++◌, sym, ap, true≢false, ◌⊎◌}
use Rattle.std.specs.Char.{is_ascii_whitespace}
use Rattle.std.specs.Float.{Format}
use Rattle.std.specs.Str.{IsTrimAsciiStart}
use Rattle.postcard_schema_text.specs.Text.{AreBlank, Led, Then, TakesPhrase, IsSign, IsWord, EndsWord, is_of_word}
use Rattle.postcard_schema_text.specs.FrontLemmas.{trim_is, takes_split, next_sign, word_unblank, same_word, WordTaken, pass_head, same_first, same_rest, sign_unblank}
use Rattle.postcard_schema_text.specs.Phrases.{takes_two, takes_as, led_more, trim_takes, word_more}
use Rattle.std.specs.Prelude.{Option, Some, None, IfSome, IfNone, MatchOption}
use Rattle.std.proofs.lemmas.List.{append_assoc, append_cancel_left}
use Rattle.postcard_value_text.specs.Floats.{IsFloatWord, IsHexadecimal, SpellsFloat}
use Rattle.postcard_value_text.specs.Quoted.{ArePieces, IsQuoted, IsByteString}
use Rattle.postcard_value_text.specs.Spelled.{Phrase, IsQuotedName, IsFieldName}
use Rattle.postcard_value_text.proofs.FloatTexts.{float_scalars}
use Rattle.postcard_value_text.proofs.Fronts.{scalar_trimmed, one_rest}

-- ---- words

-- A word that is next is next without the blanks before it too.
pub word_trimmed : (word a b r : List ℕ) → IsTrimAsciiStart a b → 0 < length word → TakesPhrase (IsWord word) a r → TakesPhrase (IsWord word) b r
word_trimmed [] a b r trim some h = absurd (omega (arith, some))
word_trimmed (x ∷ word) a b r trim some (front, (pass, led), whole) =
    (x ∷ word, (pass, ([], x ∷ word, λ k d low. absurd (omega (arith, low)), refl, refl)), trim_is a b trim ∙ word_unblank x word a r (front, (pass, led), whole))

-- A word that is next, and that doesn't go on, is the whole word that was taken.
pub one_word : (word v text after rest : List ℕ) → 0 < length word → WordTaken text v after → TakesPhrase (IsWord word) text rest → EndsWord rest → (word ≡ v) × (rest ≡ after)
one_word [] v text after rest some taken h ends = absurd (omega (arith, some))
one_word (x ∷ word) v text after rest some taken h ends = same_word x word v text after rest taken h ends

-- ---- blanks may come before a text

pub led_then : (P Q : Phrase) (a b c : List ℕ) → IsTrimAsciiStart a b → TakesPhrase (Then (Led P) Q) b c → TakesPhrase (Then (Led P) Q) a c
led_then P Q a b c trim h =
    let one = takes_split (Led P) Q b c h in
    takes_two (Led P) Q a one.0 c (led_more P a b one.0 (trim_takes a b trim) one.1) one.2

pub led_again : (P : Phrase) (a b c : List ℕ) → IsTrimAsciiStart a b → TakesPhrase (Led P) b c → TakesPhrase (Led P) a c
led_again P a b c trim h = led_more P a b c (trim_takes a b trim) h

pub quoted_led : (quote : ℕ) (held a b c : List ℕ) → IsTrimAsciiStart a b → TakesPhrase (IsQuoted quote held) b c → TakesPhrase (IsQuoted quote held) a c
quoted_led quote held a b c trim h = led_then (λ phrase. phrase ≡ quote ∷ []) (Then (ArePieces quote held) (λ end. end ≡ quote ∷ [])) a b c trim h

pub bytes_led : (bytes a b c : List ℕ) → IsTrimAsciiStart a b → TakesPhrase (IsByteString bytes) b c → TakesPhrase (IsByteString bytes) a c
bytes_led bytes a b c trim (front, (digits, held, word), whole) =
    let led_word = word_more (48 ∷ 120 ∷ digits) a b c trim (front, word, whole) in
    (led_word.0, (digits, held, led_word.1), led_word.2)

pub float_led : (f : Format) (bits : ℕ) (a b c : List ℕ) → IsTrimAsciiStart a b → TakesPhrase (SpellsFloat f bits) b c → TakesPhrase (SpellsFloat f bits) a c
float_led f bits a b c trim (front, inl word, whole) =
    takes_as (Led (IsFloatWord f bits)) (SpellsFloat f bits) a c (λ t k. inl k) (led_again (IsFloatWord f bits) a b c trim (front, word, whole))
float_led f bits a b c trim (front, inr (are, code), whole) =
    let named = IsWord (codes "nan") in
    let Q : Phrase = Then (IsSign 40) (Then (IsHexadecimal bits) (IsSign 41)) in
    let one = takes_split named Q b c (front, code, whole) in
    takes_as (Then named Q) (SpellsFloat f bits) a c (λ t k. inr (are, k)) (takes_two named Q a one.0 c (word_more (codes "nan") a b one.0 trim one.1) one.2)

-- ---- a text without the blanks before it

no_blanks : AreBlank []
no_blanks k d low = absurd (omega (arith, low))

pub quoted_trimmed : (quote : ℕ) (held a b r : List ℕ) → is_ascii_whitespace quote ≡ false → IsTrimAsciiStart a b → TakesPhrase (IsQuoted quote held) a r → TakesPhrase (IsQuoted quote held) b r
quoted_trimmed quote held a b r black trim h =
    let Q : Phrase = Then (ArePieces quote held) (λ end. end ≡ quote ∷ []) in
    let k = takes_split (IsSign quote) Q a r h in
    takes_two (IsSign quote) Q b k.0 r (quote ∷ [], ([], quote ∷ [], no_blanks, refl, refl), next_sign quote a b k.0 trim black k.1) k.2

pub bytes_trimmed : (bytes a b r : List ℕ) → IsTrimAsciiStart a b → TakesPhrase (IsByteString bytes) a r → TakesPhrase (IsByteString bytes) b r
bytes_trimmed bytes a b r trim (front, (digits, held, word), whole) =
    let k = word_trimmed (48 ∷ 120 ∷ digits) a b r trim (omega arith) (front, word, whole) in
    (k.0, (digits, held, k.1), k.2)

pub float_trimmed : (f : Format) (bits : ℕ) (a b r : List ℕ) → IsTrimAsciiStart a b → TakesPhrase (SpellsFloat f bits) a r → TakesPhrase (SpellsFloat f bits) b r
float_trimmed f bits a b r trim (front, inl p, whole) =
    takes_as (Led (IsFloatWord f bits)) (SpellsFloat f bits) b r (λ t k. inl k)
    (scalar_trimmed (IsFloatWord f bits) a b r (float_scalars f bits) trim (front, p, whole))
float_trimmed f bits a b r trim (front, inr p, whole) =
    let named = IsWord (codes "nan") in
    let Q : Phrase = Then (IsSign 40) (Then (IsHexadecimal bits) (IsSign 41)) in
    let k = takes_split named Q a r (front, p.1, whole) in
    let all = takes_two named Q b k.0 r (word_trimmed (codes "nan") a b k.0 trim (omega arith) k.1) k.2 in
    (all.0, inr (p.0, all.1), all.2)

-- ---- names of fields: a word, `label`, or the word between double quotes, `"label"`

-- The remaining bytes of a name and the quote after it.
abbrev ended : List ℕ → Phrase
ended name = λ end. end ≡ name ++ 34 ∷ []

-- A text that begins with a field's name begins with it once the blanks before it are dropped.
pub field_trimmed : (name a b r : List ℕ) → IsTrimAsciiStart a b → 0 < length name → TakesPhrase (IsFieldName name) a r → TakesPhrase (IsFieldName name) b r
field_trimmed name a b r trim some (front, inl word, whole) =
    let k = word_trimmed name a b r trim some (front, word, whole) in
    (k.0, inl k.1, k.2)
field_trimmed name a b r trim some (front, inr quoted, whole) =
    let k = takes_split (IsSign 34) (ended name) a r (front, quoted, whole) in
    let all = takes_two (IsSign 34) (ended name) b k.0 r (34 ∷ [], ([], 34 ∷ [], (λ i d low. absurd (omega (arith, low))), refl, refl), next_sign 34 a b k.0 trim refl k.1) k.2 in
    (all.0, inr all.1, all.2)

-- Blanks before a text that begins with a field's name may be added: it still begins with the name.
pub field_more : (name a b c : List ℕ) → IsTrimAsciiStart a b → TakesPhrase (IsFieldName name) b c → TakesPhrase (IsFieldName name) a c
field_more name a b c trim (front, inl word, whole) =
    let k = word_more name a b c trim (front, word, whole) in
    (k.0, inl k.1, k.2)
field_more name a b c trim (front, inr quoted, whole) =
    let k = led_then (λ phrase. phrase ≡ 34 ∷ []) (ended name) a b c trim (front, quoted, whole) in
    (k.0, inr k.1, k.2)

-- A field's name in a text is the word alone, or the word between quotes.
pub field_is : (name a r : List ℕ) → TakesPhrase (IsFieldName name) a r → TakesPhrase (IsWord name) a r ⊎ TakesPhrase (IsQuotedName name) a r
field_is name a r (front, inl word, whole) = inl (front, word, whole)
field_is name a r (front, inr quoted, whole) = inr (front, quoted, whole)

-- No text begins with the name as a word and with the name in quotes, since a quote begins no word.
pub word_or_quote : (name a r q : List ℕ) → 0 < length name → TakesPhrase (IsWord name) a r → TakesPhrase (IsQuotedName name) a q → ⊥
word_or_quote [] a r q some h k = absurd (omega (arith, some))
word_or_quote (x ∷ name) a r q some (front, (pass, led), whole) k =
    let s = takes_split (IsSign 34) (ended (x ∷ name)) a q k in
    let same : x ≡ 34 = same_first (sym (word_unblank x name a r (front, (pass, led), whole)) ∙ sign_unblank 34 a s.0 refl s.1) in
    true≢false (sym (pass_head is_of_word x name pass) ∙ ap is_of_word same)

-- A text has one remaining text after the name and the quote.
pub same_left : (name x y m : List ℕ) → m ≡ name ++ 34 ∷ x → m ≡ name ++ 34 ∷ y → x ≡ y
same_left name x y m e f = same_rest (append_cancel_left name (34 ∷ x) (34 ∷ y) (sym e ∙ f))

-- The quote, the name and the quote.
pub quoted_taken : (name a m r : List ℕ) → TakesPhrase (IsSign 34) a m → m ≡ name ++ 34 ∷ r → TakesPhrase (IsQuotedName name) a r
quoted_taken name a m r sign e = takes_two (IsSign 34) (ended name) a m r sign (name ++ 34 ∷ [], refl, e ∙ sym (append_assoc name (34 ∷ []) r))

-- What is left after the first quote.
pub quoted_left : (name a m r : List ℕ) → TakesPhrase (IsSign 34) a m → TakesPhrase (IsQuotedName name) a r → m ≡ name ++ 34 ∷ r
quoted_left name a m r sign h =
    let k = takes_split (IsSign 34) (ended name) a r h in
    let (front, is, whole) = k.2 in
    one_rest 34 a m k.0 refl sign k.1 ∙ whole ∙ ap (λ t. t ++ r) is ∙ append_assoc name (34 ∷ []) r

-- The quote after the name.
pub quote_found : (text name x : List ℕ) (r : Option (Bor (List ℕ))) → text ≡ name ++ x → MatchOption r ((rest : List ℕ) → x ≢ (34 ∷ []) ++ rest) (λ y. x ≡ (34 ∷ []) ++ y.now)
    → IfSome r (λ after. text ≡ name ++ 34 ∷ after.now)
quote_found text name x None e m = tt
quote_found text name x (Some y) e m = e ∙ ap (λ t. name ++ t) m

-- If no quote follows the name, the text doesn't begin with the name and a quote.
pub quote_none : (text name x : List ℕ) (r : Option (Bor (List ℕ))) → text ≡ name ++ x → MatchOption r ((rest : List ℕ) → x ≢ (34 ∷ []) ++ rest) (λ y. x ≡ (34 ∷ []) ++ y.now)
    → IfNone r ((after : List ℕ) → text ≡ name ++ 34 ∷ after → ⊥)
quote_none text name x None e m = λ after is. m after (append_cancel_left name x (34 ∷ after) (sym e ∙ is))
quote_none text name x (Some y) e m = tt

-- A text of JSON with escapes in place of control characters has the same tokens, and so is read as the same.
use Rattle.std.proofs.Common.{◌≡◌, ℕ, suc, ◌+◌, ◌<◌, ◌≤◌, Bool, true, false, cond, ◌==◌, ◌&&◌, List, [], ◌∷◌, ◌++◌, Option, Some, None, IsUtf8, refl, sym, ap, ap₂, ◌∙◌, subst, arith, append_assoc, append-nil, drop, option_and_then, inl, inr}
use Rattle.std.proofs.lemmas.Bool.{eqb-true, or_cases, leb-true, and_parts}
use Rattle.std.specs.Bool.{⊤}
use Rattle.std.specs.Char.{is_ascii_digit}
use Rattle.std.specs.List.{prefix_len}
use Rattle.json.specs.Token.{Token, begin_object, end_object, begin_array, end_array, key, string, number, boolean, null, bad}
use Rattle.json.specs.Word.{ends_word, head, word, after_digits, after_minus, after_sign, after_whole, after_fraction, after_exponent, after_number}
use Rattle.json.specs.Lex.{Lexeme, token, string_token, lex, between, fresh, punctuate, tokens}
use Rattle.json.specs.Print.{escape, quoted, token_text, begins, ends, print_from, print, IsNumber, IsPrintable, ArePrintable}
use Rattle.json.specs.Json.{Json, value, if_last}
use Rattle.json.specs.Tree.{json_tokens, depth}
use Rattle.json.proofs.Numbered.{value-HasNumbers, ArePrintableOrBad-tokens}
use Rattle.json.proofs.Printed.Strings.{content-escape, lex-escape}
use Rattle.json.proofs.Printed.Numbers.{lex-number, in_word-ended}
use Rattle.json.proofs.Printed.Trees.{value-json_tokens, ArePrintable-json_tokens}
use Rattle.serde_json.specs.Data.{Data}
use Rattle.serde_json.specs.Read.{max_depth, of_json, read}
use Rattle.serde_json.specs.Written.{IsInOrder}
use Rattle.postcard_value_json.specs.Escaped.{escaped}
use Rattle.postcard_value_json.proofs.Escapes.{bytes_after, bytes_of, one_byte, escaped_bytes, string_read, string_lexed}

-- ---- numbers

abbrev AreLow : List ℕ → Type 0
AreLow [] = ⊤
AreLow (b ∷ bs) = (b < 127) × AreLow bs

low_bytes : (s bs : List ℕ) → AreLow s → bytes_of (s ++ bs) ≡ s ++ bytes_of bs
low_bytes [] bs h = refl
low_bytes (b ∷ s) bs h = let low : b < 127 = h.0 in one_byte b (s ++ bs) (λ e. omega arith) (λ e. omega arith) ∙ ap (λ u. b ∷ u) (low_bytes s bs h.1)

-- What is left of t is o, and t is low if that is.
abbrev Leaves : List ℕ → Option (List ℕ) → Type 0
Leaves t None = ⊤
Leaves t (Some r) = AreLow r → AreLow t

one : (c : ℕ) (t : List ℕ) → c < 127 → (head t == c) ≡ true → AreLow (drop 1 t) → AreLow t
one c [] low e h = tt
one c (x ∷ xs) low e h = let is : x ≡ c = eqb-true x c e in (omega arith, h)

digits : (t : List ℕ) → AreLow (drop (prefix_len is_ascii_digit t) t) → AreLow t
digits [] h = tt
digits (x ∷ xs) h = go (is_ascii_digit x) refl (digits xs) h
  where
    go : (d : Bool) → is_ascii_digit x ≡ d → (AreLow (drop (prefix_len is_ascii_digit xs) xs) → AreLow xs) → AreLow (drop (cond d (1 + prefix_len is_ascii_digit xs) 0) (x ∷ xs)) → AreLow (x ∷ xs)
    go false e more k = k
    go true e more k =
        let small : x ≤ 57 = leb-true x 57 (and_parts _ _ e).1 in
        let next : 1 + prefix_len is_ascii_digit xs ≡ suc (prefix_len is_ascii_digit xs) = omega arith in
        let low : x < 127 = omega arith in
        (low, more (subst (λ n. AreLow (drop n (x ∷ xs))) next k))

by_test : (t : List ℕ) (b : Bool) (x y : Option (List ℕ)) → (b ≡ true → Leaves t x) → Leaves t y → Leaves t (cond b x y)
by_test t true x y f h = f refl
by_test t false x y f h = h

then : (t u : List ℕ) → (AreLow u → AreLow t) → (o : Option (List ℕ)) → Leaves u o → Leaves t o
then t u f None h = tt
then t u f (Some r) h = λ k. f (h k)

optional : (t : List ℕ) (b : Bool) → (b ≡ true → AreLow (drop 1 t) → AreLow t) → AreLow (cond b (drop 1 t) t) → AreLow t
optional t true f h = f refl h
optional t false f h = h

of_digits : (t : List ℕ) → Leaves t (after_digits t)
of_digits t = elim (prefix_len is_ascii_digit t == 0) as (λ b. Leaves t (cond b None (Some (drop (prefix_len is_ascii_digit t) t)))) [ true ↦ tt | false ↦ digits t ]

of_whole : (t : List ℕ) → Leaves t (after_whole t)
of_whole t = by_test t (head t == 48) _ _ (one 48 t (omega arith)) (of_digits t)

of_fraction : (t : List ℕ) → Leaves t (after_fraction t)
of_fraction t = by_test t (head t == 46) _ _ (λ e. then t (drop 1 t) (one 46 t (omega arith) e) _ (of_digits (drop 1 t))) (λ h. h)

of_sign : (t : List ℕ) → AreLow (after_sign t) → AreLow t
of_sign t = optional t _ (λ e h. elim (or_cases (head t == 45) (head t == 43) e) [ inl k ↦ one 45 t (omega arith) k h | inr k ↦ one 43 t (omega arith) k h ])

of_minus : (t : List ℕ) → AreLow (after_minus t) → AreLow t
of_minus t = optional t _ (λ e h. one 45 t (omega arith) e h)

of_exponent : (t : List ℕ) → Leaves t (after_exponent t)
of_exponent t =
    by_test t _ _ _
    (λ e. then t (drop 1 t) (λ h. elim (or_cases (head t == 101) (head t == 69) e) [ inl k ↦ one 101 t (omega arith) k h | inr k ↦ one 69 t (omega arith) k h ]) _
    (then (drop 1 t) (after_sign (drop 1 t)) (of_sign (drop 1 t)) _ (of_digits (after_sign (drop 1 t)))))
    (λ h. h)

chained : (t : List ℕ) (o : Option (List ℕ)) (f : List ℕ → Option (List ℕ)) → ((u : List ℕ) → Leaves u (f u)) → Leaves t o → Leaves t (option_and_then f o)
chained t None f g h = tt
chained t (Some r) f g h = then t r h (f r) (g r)

number_low : (s : List ℕ) → IsNumber s → AreLow s
unfolding after_number
number_low s is =
    let whole = then s (after_minus s) (of_minus s) (after_whole (after_minus s)) (of_whole (after_minus s)) in
    let all = chained s _ after_exponent of_exponent (chained s _ after_fraction of_fraction whole) in
    subst (Leaves s) is all tt

-- ---- tokens

-- After a value stands a comma, a closing bracket or nothing.
value_ends : (ts : List Token) → (ends_word (print_from true ts) ≡ true) × (ends_word (bytes_of (print_from true ts)) ≡ true)
unfolding print_from bytes_after
value_ends (begin_object ∷ ts) = (refl, refl)
value_ends ts = (refl, refl)

-- The text has the same tokens as with escapes.
abbrev Same : List ℕ → Type 0
Same bs = lex between (bytes_of bs) ≡ lex between bs

same_quoted : (s bs : List ℕ) → Same bs → Same (quoted s ++ bs)
unfolding lex bytes_after
same_quoted s bs same =
    let whole = append_assoc (escape s) (34 ∷ []) bs in
    ap (λ u. lex between (bytes_of (34 ∷ u))) whole
    ∙ ap₂ (λ o ls. token (string_token o) ∷ ls) (string_read false s bs) (string_lexed false s bs ∙ same)
    ∙ sym (ap (λ u. lex between (34 ∷ u)) whole ∙ ap₂ (λ o ls. token (string_token o) ∷ ls) (content-escape s bs) (lex-escape s bs))

same_token : (t : Token) (bs : List ℕ) → IsPrintable t → (ends t ≡ true → (ends_word bs ≡ true) × (ends_word (bytes_of bs) ≡ true)) → Same bs → Same (token_text t ++ bs)
unfolding lex word bytes_after
same_token (key s) bs h ended same = subst Same (sym (append_assoc (quoted s) (58 ∷ []) bs)) (same_quoted s (58 ∷ bs) (ap (λ ls. Lexeme.colon ∷ ls) same))
same_token (string s) bs h ended same = same_quoted s bs same
same_token (number s) bs h ended same =
    let e = ended refl in
    ap (lex between) (low_bytes s bs (number_low s h)) ∙ lex-number s (bytes_of bs) h e.1 ∙ ap (λ ls. token (number s) ∷ ls) same ∙ sym (lex-number s bs h e.0)
same_token (boolean true) bs h ended same =
    let e = ended refl in
    ap₂ (λ b ls. token (cond b (boolean true) bad) ∷ ls) (e.1 ∙ sym e.0) (in_word-ended (bytes_of bs) e.1 ∙ same ∙ sym (in_word-ended bs e.0))
same_token (boolean false) bs h ended same =
    let e = ended refl in
    ap₂ (λ b ls. token (cond b (boolean false) bad) ∷ ls) (e.1 ∙ sym e.0) (in_word-ended (bytes_of bs) e.1 ∙ same ∙ sym (in_word-ended bs e.0))
same_token null bs h ended same =
    let e = ended refl in
    ap₂ (λ b ls. token (cond b null bad) ∷ ls) (e.1 ∙ sym e.0) (in_word-ended (bytes_of bs) e.1 ∙ same ∙ sym (in_word-ended bs e.0))
same_token bad bs h ended same = absurd h
same_token t bs h ended same = ap (λ ls. token t ∷ ls) same

same_separated : (b : Bool) (bs : List ℕ) → Same bs → Same (cond b (44 ∷ []) [] ++ bs)
unfolding lex bytes_after
same_separated true bs same = ap (λ ls. Lexeme.comma ∷ ls) same
same_separated false bs same = same

same_print : (c : Bool) (ts : List Token) → ArePrintable ts → Same (print_from c ts)
unfolding print_from ArePrintable lex bytes_after
same_print c [] h = refl
same_print c (t ∷ ts) h =
    same_separated (c && begins t) _
    (same_token t (print_from (ends t) ts) h.0 (λ e. subst (λ b. (ends_word (print_from b ts) ≡ true) × (ends_word (bytes_of (print_from b ts)) ≡ true)) (sym e) (value_ends ts)) (same_print (ends t) ts h.1))

-- A text of JSON has the tokens that it has with escapes.
pub tokens_escaped : (text : List ℕ) (j : Json) → IsUtf8 text → text ≡ print (tokens text) → tokens text ≡ json_tokens j → tokens (escaped text) ≡ tokens text
tokens_escaped text j utf8 printed is =
    let read = ap (value (depth j)) (is ∙ sym (append-nil (json_tokens j))) ∙ value-json_tokens j (depth j) [] (omega arith) in
    let numbers = value-HasNumbers (depth j) (tokens text) [] j (ArePrintableOrBad-tokens text) read in
    let printable : ArePrintable (tokens text) = subst ArePrintable (sym is) (ArePrintable-json_tokens j numbers) in
    ap tokens (escaped_bytes text utf8) ∙ ap (punctuate fresh) (subst Same (sym printed) (same_print false (tokens text) printable))

-- The same of a text that is shown with escapes.
pub tokens_shown : (text shown : List ℕ) (d : Data) → IsUtf8 text → text ≡ print (tokens text) → IsInOrder text d → shown ≡ escaped text → tokens shown ≡ tokens text
tokens_shown text shown d utf8 printed (j, is, blank) e = ap tokens e ∙ tokens_escaped text j utf8 printed is

-- Texts of the same tokens are the same JSON.
pub same_read : (a b : List ℕ) → tokens a ≡ tokens b → read a ≡ read b
same_read a b e = ap (λ ts. option_and_then of_json (option_and_then (λ p. if_last p.0 p.1) (value max_depth ts))) e

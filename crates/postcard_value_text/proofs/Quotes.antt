-- Lemmas on quoted texts and byte strings.
use Rattle.std.proofs.Common.{◌≡◌, ◌≢◌, ℕ, ◌+◌, ◌*◌, ◌^◌, ◌<◌, ◌≤◌, List, [], ◌∷◌, ◌++◌, length, refl, sym, ap, ◌∙◌, arith, inl, inr}
use Rattle.std.proofs.Math.Nat.{pow-le-pow_right}
use Rattle.std.proofs.lemmas.Grind.{common_steps}
use Rattle.std.proofs.lemmas.List.{append_assoc, append-nil, flat_map_more, length_push}
use Rattle.std.proofs.lemmas.Int.Digits.{digits_push, digits_value-lt, digits_value_push}
use Rattle.std.specs.List.{AllByRecursion}
use Rattle.std.specs.Char.{IsScalar, digit_value, encode_utf8}
use Rattle.std.specs.Str.Parse.{AllDigits, digits_value}
use Rattle.postcard_schema_text.specs.Text.{Then, TakesPhrase, IsSign, IsWord}
use Rattle.postcard_value_text.specs.Quoted.{StandsFor, IsCode, IsEscape, IsPiece, ArePieces, IsQuoted, AreDigitsOf, IsByteString}

-- `count` hexadecimal digits with the number `code` are taken from the text after its `{`.
abbrev pub HasDigits : ℕ → ℕ → List ℕ → List ℕ → Type 0
HasDigits count code text rest = (ds : List ℕ) × AllDigits 16 ds × (length ds ≡ count) × (code ≡ digits_value 16 ds) × (text ≡ 123 ∷ ds ++ rest)

-- Taking one more digit adds it to the code.
pub digit_more : (count code d : ℕ) (text rest after : List ℕ) → HasDigits count code text rest → rest ≡ d ∷ after → digit_value d < 16
    → HasDigits (count + 1) (code * 16 + digit_value d) text after
digit_more count code d text rest after (ds, pass, long, is, whole) next low = (
  ds ++ d ∷ [],
  digits_push 16 ds d pass low,
  length_push ds d ∙ ap (λ n. n + 1) long,
  ap (λ n. n * 16 + digit_value d) is ∙ sym (digits_value_push 16 ds d),
  whole ∙ ap (λ t. 123 ∷ ds ++ t) next ∙ ap (λ t. 123 ∷ t) (sym (append_assoc ds (d ∷ []) after)),
)

-- Six digits write a number of 24 bits.
pub code_small : (count code : ℕ) (text rest : List ℕ) → HasDigits count code text rest → count ≤ 6 → code < 16777216
code_small count code text rest (ds, pass, long, is, whole) few =
    let low : digits_value 16 ds < 16 ^ length ds = digits_value-lt 16 ds pass in
    let most : 16 ^ length ds ≤ 16 ^ 6 = pow-le-pow_right {n = 16} (omega arith) {i = length ds} {j = 6} (omega (arith, long, few)) in
    let sixth : 16 ^ 6 ≡ 16777216 = refl in
    omega (arith, low, most, sixth, is)

-- One to six digits and a `}` are a code.
pub code_takes : (count code : ℕ) (text rest after : List ℕ) → HasDigits count code text rest → 0 < count → count ≤ 6 → rest ≡ 125 ∷ after → IsScalar code
    → TakesPhrase (IsCode code) text after
code_takes count code text rest after (ds, pass, long, is, whole) some few next scalar = (
  123 ∷ ds ++ 125 ∷ [],
  (ds, (omega (arith, long, some), pass), omega (arith, long, few), scalar, is, refl),
  whole ∙ ap (λ t. 123 ∷ ds ++ t) next ∙ ap (λ t. 123 ∷ t) (sym (append_assoc ds (125 ∷ []) after)),
)

-- Two more digits are those of one more byte.
pub byte_more : (bytes : List ℕ) (high low : ℕ) (text : List ℕ) → AreDigitsOf bytes text → digit_value high < 16 → digit_value low < 16
    → AreDigitsOf (bytes ++ (digit_value high * 16 + digit_value low) ∷ []) (text ++ high ∷ low ∷ [])
byte_more [] high low text none h l = (high, low, [], h, l, refl, refl, ap (λ t. t ++ high ∷ low ∷ []) none)
byte_more (b ∷ bs) high low text (x, y, rest, p, q, is, more, whole) h l =
    (x, y, rest ++ high ∷ low ∷ [], p, q, is, byte_more bs high low rest more h l, ap (λ t. t ++ high ∷ low ∷ []) whole)

-- The bytes are denoted by the digits up to `rest`, two for each.
abbrev pub HasBytes : List ℕ → ℕ → List ℕ → List ℕ → Type 0
HasBytes bytes count digits rest = (front : List ℕ) × AreDigitsOf bytes front × (digits ≡ front ++ rest) × (length rest + 2 * count ≡ length digits)

-- Two digits more denote one byte more.
pub bytes_more : (bytes : List ℕ) (count high low : ℕ) (digits rest middle after : List ℕ) → HasBytes bytes count digits rest → rest ≡ high ∷ middle → middle ≡ low ∷ after
    → digit_value high < 16 → digit_value low < 16 → HasBytes (bytes ++ (digit_value high * 16 + digit_value low) ∷ []) (count + 1) digits after
bytes_more bytes count high low digits rest middle after (front, held, whole, long) first second h l =
    let next : rest ≡ high ∷ low ∷ after = first ∙ ap (λ t. high ∷ t) second in
    let few : length rest ≡ length after + 2 = ap length next ∙ grind (arith, common_steps) in
    (front ++ high ∷ low ∷ [], byte_more bytes high low front held h l, whole ∙ ap (λ t. front ++ t) next ∙ sym (append_assoc front (high ∷ low ∷ []) after), omega (arith, few, long))

-- The digits of bytes are hexadecimal.
pub all_hexadecimal : (bytes text : List ℕ) → AreDigitsOf bytes text → AllDigits 16 text
all_hexadecimal [] text none = rw none tt
all_hexadecimal (b ∷ bs) text (x, y, rest, p, q, is, more, whole) = rw whole (p, (q, all_hexadecimal bs rest more))

-- A byte string has two digits for each byte.
pub even : (bytes text : List ℕ) → AreDigitsOf bytes text → length text ≡ 2 * length bytes
even [] text none = ap length none
even (b ∷ bs) text (x, y, rest, p, q, is, more, whole) =
    let less = even bs rest more in grind (arith, common_steps, less, whole)

-- Digits of bytes have no other byte among them.
not_digit : (front : List ℕ) (x : ℕ) (after : List ℕ) → AllDigits 16 (front ++ x ∷ after) → digit_value x < 16
not_digit [] x after all = all.0
not_digit (y ∷ ys) x after all = not_digit ys x after all.1

-- Where no digit can be taken from the bytes that are left, the text isn't the digits of bytes.
pub no_bytes : (bytes front rest digits : List ℕ) → digits ≡ front ++ rest → 0 < length rest → ((x : ℕ) (after : List ℕ) → rest ≡ x ∷ after → digit_value x < 16 → ⊥) → AreDigitsOf bytes digits → ⊥
no_bytes bytes front [] digits whole some none held = absurd (omega (arith, some))
no_bytes bytes front (x ∷ after) digits whole some none held = none x after refl (not_digit front x after (rw whole at (all_hexadecimal bytes digits held)))

all_pieces : (q : ℕ) (ps : List (List ℕ × List ℕ)) (p : List ℕ × List ℕ) → AllByRecursion (λ p. IsPiece q p.0 p.1) ps → IsPiece q p.0 p.1 → AllByRecursion (λ p. IsPiece q p.0 p.1) (ps ++ p ∷ [])
all_pieces q [] p all one = (one, tt)
all_pieces q (x ∷ xs) p all one = (all.0, all_pieces q xs p all.1 one)

-- Pieces and one more are pieces.
pieces_more : (q : ℕ) (held text h t : List ℕ) → ArePieces q held text → IsPiece q h t → ArePieces q (held ++ h) (text ++ t)
pieces_more q held text h t (ps, all, is, whole) one = (
  ps ++ (h, t) ∷ [],
  all_pieces q ps (h, t) all one,
  ap (λ u. u ++ h) is ∙ flat_map_more (λ p. p.0) [] ps (h, t),
  ap (λ u. u ++ t) whole ∙ flat_map_more (λ p. p.1) [] ps (h, t),
)

-- The quote and pieces are taken from a text.
abbrev pub HasPieces : ℕ → List ℕ → List ℕ → List ℕ → Type 0
HasPieces q held text rest = TakesPhrase (Then (IsSign q) (ArePieces q held)) text rest

-- After the first quote, no piece is taken yet.
pub quote_takes : (q : ℕ) (text rest : List ℕ) → TakesPhrase (IsSign q) text rest → HasPieces q [] text rest
quote_takes q text rest (front, sign, whole) = (front, (front, [], sign, ([], tt, refl, refl), sym (append-nil front)), whole)

-- One piece more adds its bytes.
pub quoted_more : (q : ℕ) (held h t text rest after : List ℕ) → HasPieces q held text rest → IsPiece q h t → rest ≡ t ++ after → HasPieces q (held ++ h) text after
quoted_more q held h t text rest after (front, (f, g, sign, pieces, joint), whole) one next =
    (front ++ t, (f, g ++ t, sign, pieces_more q held g h t pieces one, ap (λ u. u ++ t) joint ∙ append_assoc f g t), whole ∙ ap (λ u. front ++ u) next ∙ sym (append_assoc front t after))

-- A quote after the pieces ends the quoted text.
pub quoted_end : (q : ℕ) (held text rest after : List ℕ) → HasPieces q held text rest → rest ≡ q ∷ after → TakesPhrase (IsQuoted q held) text after
quoted_end q held text rest after (front, (f, g, sign, pieces, joint), whole) next =
    (front ++ q ∷ [], (f, g ++ q ∷ [], sign, (g, q ∷ [], pieces, refl, refl), ap (λ u. u ++ q ∷ []) joint ∙ append_assoc f g (q ∷ [])), whole ∙ ap (λ u. front ++ u) next ∙ sym (append_assoc front (q ∷ []) after))

-- An escape that stands for one byte.
pub short_takes : (letter byte : ℕ) (old new text rest : List ℕ) → StandsFor letter byte → new ≡ old ++ byte ∷ [] → text ≡ letter ∷ rest
    → (held : List ℕ) × (new ≡ old ++ held) × TakesPhrase (IsEscape held) text rest
short_takes letter byte old new text rest stands added next = (byte ∷ [], added, (letter ∷ [], inl (letter, byte, stands, refl, refl), next))

-- An escape by the code of a character.
pub code_escape : (c : ℕ) (old new text middle rest : List ℕ) → new ≡ old ++ encode_utf8 c → text ≡ 117 ∷ middle → TakesPhrase (IsCode c) middle rest
    → (held : List ℕ) × (new ≡ old ++ held) × TakesPhrase (IsEscape held) text rest
code_escape c old new text middle rest added next (code, is, whole) =
    (encode_utf8 c, added, (117 ∷ code, inr (c, code, is, refl, refl), next ∙ ap (λ t. 117 ∷ t) whole))

-- An escape isn't empty.
pub escape_shorter : (old new text rest : List ℕ) → (held : List ℕ) × (new ≡ old ++ held) × TakesPhrase (IsEscape held) text rest → length rest < length text
escape_shorter old new text rest (held, added, (front, inl (letter, byte, stands, is, e), whole)) = grind (arith, common_steps, e, whole)
escape_shorter old new text rest (held, added, (front, inr (c, code, stands, is, e), whole)) = grind (arith, common_steps, e, whole)

-- Taking one more plain byte, or one more escape, adds its bytes.
pub plain_more : (q byte : ℕ) (held text rest after : List ℕ) → HasPieces q held text rest → rest ≡ byte ∷ after → byte ≢ q → byte ≢ 92 → HasPieces q (held ++ byte ∷ []) text after
plain_more q byte held text rest after taken next other plain = quoted_more q held (byte ∷ []) (byte ∷ []) text rest after taken (inl (byte, other, plain, refl, refl)) next

-- An escape is a piece.
pub escape_more : (q : ℕ) (held new text rest middle after : List ℕ) → HasPieces q held text rest → rest ≡ 92 ∷ middle
    → (h : List ℕ) × (new ≡ held ++ h) × TakesPhrase (IsEscape h) middle after → HasPieces q new text after
escape_more q held new text rest middle after taken next (h, is, (escape, one, whole)) =
    rw is (quoted_more q held h (92 ∷ escape) text rest after taken (inr (escape, one, refl)) (next ∙ ap (λ t. 92 ∷ t) whole))

-- Blanks, `0x` and the digits of bytes are a byte string.
pub bytes_take : (bytes digits word text rest : List ℕ) → TakesPhrase (IsWord word) text rest → word ≡ 48 ∷ 120 ∷ digits → AreDigitsOf bytes digits → TakesPhrase (IsByteString bytes) text rest
bytes_take bytes digits word text rest (front, spelled, whole) is held = (front, (digits, held, rw is at spelled), whole)

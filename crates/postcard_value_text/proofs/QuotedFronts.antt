-- What is left of a quoted text, of a character's code and of a byte string's digits once the first bytes of them are taken.
use Rattle.std.proofs.Common.{◌≡◌, ◌≢◌, ℕ, ◌+◌, ◌*◌, ◌<◌, ◌≤◌, false, List, [], ◌∷◌, ◌++◌, length, refl, sym, ap, subst, ◌∙◌, arith, ◌⊎◌, inl, inr}
use Rattle.std.proofs.lemmas.Bool.Decides.{nat_tests}
use Rattle.std.proofs.lemmas.List.{append_assoc, append-nil}
use Rattle.std.specs.List.{AllByRecursion, flat_map}
use Rattle.std.specs.Char.{IsScalar, digit_value, encode_utf8, is_ascii_whitespace}
use Rattle.std.specs.Str.Parse.{AllDigits, digits_value_after}
use Rattle.postcard_schema_text.specs.Text.{Then, TakesPhrase, IsSign, EndsWord}
use Rattle.postcard_schema_text.specs.FrontLemmas.{same_first, same_rest, not_empty, takes_split, same_word, WordTaken}
use Rattle.postcard_value_text.specs.Quoted.{StandsFor, IsCode, IsEscape, IsPiece, ArePieces, IsQuoted, AreDigitsOf, IsByteString}
use Rattle.postcard_value_text.proofs.Fronts.{one_rest}

-- ---- pieces

-- The pieces that are left, and the quote after them.
pub record PiecesLeft (quote : ℕ) (done held a r : List ℕ) : Type 0 where
  pub more : List (List ℕ × List ℕ)
  pub each : AllByRecursion (λ p. IsPiece quote p.0 p.1) more
  pub whole : held ≡ done ++ flat_map (λ p. p.0) more
  pub left : a ≡ flat_map (λ p. p.1) more ++ quote ∷ r

end_taken : (quote : ℕ) (b r : List ℕ) → TakesPhrase (λ end. end ≡ quote ∷ []) b r → b ≡ quote ∷ r
end_taken quote b r (front, is, whole) = whole ∙ ap (λ t. t ++ r) is

-- After the first quote, all pieces are left.
pub pieces_begin : (quote : ℕ) (done held a b r : List ℕ) → is_ascii_whitespace quote ≡ false → done ≡ [] → TakesPhrase (IsSign quote) a b → TakesPhrase (IsQuoted quote held) a r → PiecesLeft quote done held b r
pieces_begin quote done held a b r black none sign h =
    let one = takes_split (IsSign quote) (Then (ArePieces quote held) (λ end. end ≡ quote ∷ [])) a r h in
    let two = takes_split (ArePieces quote held) (λ end. end ≡ quote ∷ []) one.0 r one.2 in
    let (front, (pieces, each, is, text), whole) = two.1 in
    record {
      more = pieces;
      each = each;
      whole = rw none is;
      left = one_rest quote a b one.0 black sign one.1 ∙ whole ∙ ap (λ t. t ++ two.0) text ∙ ap (λ t. flat_map (λ p. p.1) pieces ++ t) (end_taken quote two.0 r two.2);
    }

-- No quote stands before the pieces that are left.
pub no_quote : (quote : ℕ) (held a b r : List ℕ) → is_ascii_whitespace quote ≡ false → TakesPhrase (IsQuoted quote held) a r → ((m : List ℕ) → TakesPhrase (IsSign quote) a m → ⊥) → ⊥
no_quote quote held a b r black h none =
    let one = takes_split (IsSign quote) (Then (ArePieces quote held) (λ end. end ≡ quote ∷ [])) a r h in
    none one.0 one.1

piece_begins : (quote : ℕ) (held text more a : List ℕ) (byte : ℕ) → IsPiece quote held text → text ++ more ≡ byte ∷ a
    → ((byte ≢ quote) × (byte ≢ 92) × (held ≡ byte ∷ []) × (more ≡ a)) ⊎ ((byte ≡ 92) × ((escape : List ℕ) × IsEscape held escape × (escape ++ more ≡ a)))
piece_begins quote held text more a byte (inl (x, other, plain, is, e)) whole =
    let first : x ≡ byte = cc in
    inl (subst (λ y. y ≢ quote) first other, subst (λ y. y ≢ 92) first plain, cc, cc)
piece_begins quote held text more a byte (inr (escape, is, e)) whole = inr (cc, (escape, is, cc))

-- What comes next: the quote at the end, a plain byte or an escape.
pub Next : ℕ → List ℕ → List ℕ → List ℕ → ℕ → List ℕ → Type 0
Next quote done held r byte a =
    ((byte ≡ quote) × (held ≡ done) × (a ≡ r))
    ⊎ (((byte ≢ quote) × (byte ≢ 92) × PiecesLeft quote (done ++ byte ∷ []) held a r)
    ⊎ ((byte ≡ 92) × ((h : List ℕ) × (m : List ℕ) × TakesPhrase (IsEscape h) a m × PiecesLeft quote (done ++ h) held m r)))

pieces_next : (quote byte : ℕ) (done held a r : List ℕ) → PiecesLeft quote done held (byte ∷ a) r → Next quote done held r byte a
unfolding Next
pieces_next quote byte done held a r h = by h.more h.each h.whole h.left
  where
    by : (more : List (List ℕ × List ℕ)) → AllByRecursion (λ p. IsPiece quote p.0 p.1) more → held ≡ done ++ flat_map (λ p. p.0) more
        → byte ∷ a ≡ flat_map (λ p. p.1) more ++ quote ∷ r → Next quote done held r byte a
    by [] each whole left = inl (same_first left, whole ∙ append-nil done, same_rest left)
    by (p ∷ ps) each whole left =
        let after = flat_map (λ p. p.1) ps ++ quote ∷ r in
        let all : p.1 ++ after ≡ byte ∷ a = sym (left ∙ append_assoc p.1 (flat_map (λ p. p.1) ps) (quote ∷ r)) in
        let others = flat_map (λ p. p.0) ps in
        elim (piece_begins quote p.0 p.1 after a byte each.0 all) [
          | inl k ↦
              let held_is = whole ∙ ap (λ t. done ++ (t ++ others)) k.2 ∙ sym (append_assoc done (byte ∷ []) others) in
              inr (inl (k.0, k.1, record { more = ps; each = each.1; whole = held_is; left = sym k.3 }))
          | inr k ↦
              let held_is = whole ∙ sym (append_assoc done p.0 others) in
              inr (inr (k.0, (p.0, after, (k.1.0, k.1.1, sym k.1.2), record { more = ps; each = each.1; whole = held_is; left = refl })))
        ]

-- Where a quote is next, no piece is left.
pub pieces_quote : (quote : ℕ) (done held a b r : List ℕ) → quote ≢ 92 → PiecesLeft quote done held a r → a ≡ quote ∷ b → (held ≡ done) × (b ≡ r)
unfolding Next
pieces_quote quote done held a b r differs h first = elim (pieces_next quote quote done held b r (subst (λ t. PiecesLeft quote done held t r) first h)) [
  | inl k ↦ (k.1, k.2)
  | inr (inl k) ↦ absurd (k.0 refl)
  | inr (inr k) ↦ absurd (differs k.0)
]

-- Where a byte other than the quote and `\` is next, it stands for itself.
pub pieces_plain : (quote byte : ℕ) (done held a b r : List ℕ) → PiecesLeft quote done held a r → a ≡ byte ∷ b → byte ≢ quote → byte ≢ 92 → PiecesLeft quote (done ++ byte ∷ []) held b r
unfolding Next
pieces_plain quote byte done held a b r h first other plain = elim (pieces_next quote byte done held b r (subst (λ t. PiecesLeft quote done held t r) first h)) [
  | inl k ↦ absurd (other k.0)
  | inr (inl k) ↦ k.2
  | inr (inr k) ↦ absurd (plain k.0)
]

-- What is left after a `\`: an escape, and then the other pieces.
pub record EscapeLeft (quote : ℕ) (done held b r : List ℕ) : Type 0 where
  pub bytes : List ℕ
  pub after : List ℕ
  pub taken : TakesPhrase (IsEscape bytes) b after
  pub left : PiecesLeft quote (done ++ bytes) held after r

-- Where a `\` is next, an escape is left.
pub pieces_escape : (quote : ℕ) (done held a b r : List ℕ) → quote ≢ 92 → PiecesLeft quote done held a r → a ≡ 92 ∷ b → EscapeLeft quote done held b r
unfolding Next
pieces_escape quote done held a b r differs h first = elim (pieces_next quote 92 done held b r (subst (λ t. PiecesLeft quote done held t r) first h)) [
  | inl k ↦ absurd (differs (sym k.0))
  | inr (inl k) ↦ absurd (k.1 refl)
  | inr (inr k) ↦ record { bytes = k.1.0; after = k.1.1; taken = k.1.2; left = k.1.3 }
]

-- The state after an escape was read.
pub escape_read : (quote : ℕ) (done new held b m r : List ℕ) → (k : EscapeLeft quote done held b r) → (new ≡ done ++ k.bytes) × (m ≡ k.after) → PiecesLeft quote new held m r
escape_read quote done new held b m r k (is, at) = rw (is, at) k.left

not_joined : (front : List ℕ) (x : ℕ) (r : List ℕ) → [] ≡ front ++ x ∷ r → ⊥
not_joined [] x r e = not_empty e
not_joined (y ∷ ys) x r e = not_empty e

-- The text doesn't end before the quote.
pub pieces_not_ended : (quote : ℕ) (done held a r : List ℕ) → PiecesLeft quote done held a r → a ≡ [] → ⊥
pieces_not_ended quote done held a r h none = not_joined (flat_map (λ p. p.1) h.more) quote r (sym none ∙ h.left)

-- ---- escapes

-- A letter stands for one byte, and `u` for none.
pub one_byte : (letter x y : ℕ) → StandsFor letter x → StandsFor letter y → x ≡ y
one_byte letter x y (inl h) k = grind (arith, h, k)
one_byte letter x y (inr (inl h)) k = grind (arith, h, k)
one_byte letter x y (inr (inr (inl h))) k = grind (arith, h, k)
one_byte letter x y (inr (inr (inr (inl h)))) k = grind (arith, h, k)
one_byte letter x y (inr (inr (inr (inr (inl h))))) k = grind (arith, h, k)
one_byte letter x y (inr (inr (inr (inr (inr (inl h)))))) k = grind (arith, h, k)
one_byte letter x y (inr (inr (inr (inr (inr (inr (h))))))) k = grind (arith, h, k)

no_u : (x : ℕ) → StandsFor 117 x → ⊥
no_u x h = grind (arith, h)

-- An escape by a code.
pub record CodeEscape (held b r : List ℕ) : Type 0 where
  pub character : ℕ
  pub taken : TakesPhrase (IsCode character) b r
  pub is : held ≡ encode_utf8 character

-- After a `u`, the escape is a code.
pub code_of : (held a b r : List ℕ) → TakesPhrase (IsEscape held) a r → a ≡ 117 ∷ b → CodeEscape held b r
code_of held a b r (front, inl (letter, byte, stands, is, e), whole) first =
    let same : letter ≡ 117 = same_first (sym (ap (λ t. t ++ r) e) ∙ sym whole ∙ first) in
    absurd (no_u byte (subst (λ l. StandsFor l byte) same stands))
code_of held a b r (front, inr (c, code, is, stands, e), whole) first =
    record { character = c; taken = (code, is, same_rest (sym first ∙ whole ∙ ap (λ t. t ++ r) e)); is = stands }

-- An escape by a letter.
pub record LetterEscape (letter : ℕ) (held b r : List ℕ) : Type 0 where
  pub byte : ℕ
  pub stands : StandsFor letter byte
  pub is : held ≡ byte ∷ []
  pub left : b ≡ r

-- After a letter other than `u`, the escape is the byte of that letter.
pub letter_of : (letter : ℕ) (held a b r : List ℕ) → TakesPhrase (IsEscape held) a r → a ≡ letter ∷ b → letter ≢ 117 → LetterEscape letter held b r
letter_of letter held a b r (front, inl (other, byte, stands, is, e), whole) first differs =
    let here : other ≡ letter = cc in
    record { byte = byte; stands = subst (λ l. StandsFor l byte) here stands; is = is; left = cc }
letter_of letter held a b r (front, inr (c, code, is, stands, e), whole) first differs =
    absurd (differs (same_first (sym first ∙ whole ∙ ap (λ t. t ++ r) e)))

pub escape_not_ended : (held r : List ℕ) → TakesPhrase (IsEscape held) [] r → ⊥
escape_not_ended held r (front, inl (letter, byte, stands, is, e), whole) = not_empty (whole ∙ ap (λ t. t ++ r) e)
escape_not_ended held r (front, inr (c, code, is, stands, e), whole) = not_empty (whole ∙ ap (λ t. t ++ r) e)

-- ---- codes

-- The digits that are left of the code of c, and the `}` after them.
pub record CodeLeft (count code c : ℕ) (a r : List ℕ) : Type 0 where
  pub digits : List ℕ
  pub all : AllDigits 16 digits
  pub says : c ≡ digits_value_after 16 code digits
  pub scalar : IsScalar c
  pub few : count + length digits ≤ 6
  pub some : 0 < count + length digits
  pub left : a ≡ digits ++ 125 ∷ r

code_whole : (digits a r code : List ℕ) → code ≡ 123 ∷ digits ++ 125 ∷ [] → a ≡ code ++ r → a ≡ 123 ∷ digits ++ 125 ∷ r
code_whole digits a r code e whole = whole ∙ ap (λ t. t ++ r) e ∙ ap (λ t. 123 ∷ t) (append_assoc digits (125 ∷ []) r)

-- A code begins with `{`.
pub code_begins : (c : ℕ) (a b r : List ℕ) (first : ℕ) → TakesPhrase (IsCode c) a r → a ≡ first ∷ b → (first ≡ 123) × CodeLeft 0 0 c b r
code_begins c a b r first (code, (digits, numeral, few, scalar, says, e), whole) is =
    let here : first ∷ b ≡ 123 ∷ digits ++ 125 ∷ r = sym is ∙ code_whole digits a r code e whole in
    (same_first here, record { digits = digits; all = numeral.1; says = says; scalar = scalar; few = omega (arith, few); some = omega (arith, numeral.0); left = same_rest here })

pub code_not_ended : (c : ℕ) (r : List ℕ) → TakesPhrase (IsCode c) [] r → ⊥
code_not_ended c r (code, (digits, numeral, few, scalar, says, e), whole) = not_empty (code_whole digits [] r code e whole)

pub code_left_not_ended : (count code c : ℕ) (a r : List ℕ) → CodeLeft count code c a r → a ≡ [] → ⊥
code_left_not_ended count code c a r h none = not_joined h.digits 125 r (sym none ∙ h.left)

not_a_digit : digit_value 125 < 16 → ⊥
not_a_digit h = grind (arith, nat_tests, h)

-- The `}` is next: the code is c.
pub code_closes : (count code c : ℕ) (a b r : List ℕ) → CodeLeft count code c a r → a ≡ 125 ∷ b → (c ≡ code) × IsScalar c × (0 < count) × (b ≡ r)
code_closes count code c a b r h first = by h.digits h.all h.says h.some h.left
  where
    by : (digits : List ℕ) → AllDigits 16 digits → c ≡ digits_value_after 16 code digits → 0 < count + length digits → a ≡ digits ++ 125 ∷ r → (c ≡ code) × IsScalar c × (0 < count) × (b ≡ r)
    by [] all says some left = (says, h.scalar, omega (arith, some), same_rest (sym first ∙ left))
    by (d ∷ ds) all says some left = absurd (not_a_digit (subst (λ x. digit_value x < 16) (sym (same_first (sym first ∙ left))) all.0))

-- Another byte is next: it is a digit of the code.
pub code_digit : (count code c byte : ℕ) (a b r : List ℕ) → CodeLeft count code c a r → a ≡ byte ∷ b → byte ≢ 125 → (digit_value byte < 16) × CodeLeft (count + 1) (code * 16 + digit_value byte) c b r
code_digit count code c byte a b r h first other = by h.digits h.all h.says h.few h.left
  where
    by : (digits : List ℕ) → AllDigits 16 digits → c ≡ digits_value_after 16 code digits → count + length digits ≤ 6 → a ≡ digits ++ 125 ∷ r → (digit_value byte < 16) × CodeLeft (count + 1) (code * 16 + digit_value byte) c b r
    by [] all says few left = absurd (other (same_first (sym first ∙ left)))
    by (d ∷ ds) all says few left =
        let here : byte ∷ b ≡ d ∷ (ds ++ 125 ∷ r) = sym first ∙ left in
        let same : d ≡ byte = sym (same_first here) in (
          subst (λ x. digit_value x < 16) same all.0,
          record {
            digits = ds;
            all = all.1;
            says = says ∙ ap (λ x. digits_value_after 16 (code * 16 + digit_value x) ds) same;
            scalar = h.scalar;
            few = omega (arith, few);
            some = omega arith;
            left = same_rest here;
          },
        )

-- ---- byte strings

-- Digits denote the bytes of one list.
pub one_bytes : (bs cs text : List ℕ) → AreDigitsOf bs text → AreDigitsOf cs text → bs ≡ cs
one_bytes [] [] text h k = refl
one_bytes [] (c ∷ cs) text none (x, y, rest, p, q, is, more, whole) = cc
one_bytes (b ∷ bs) [] text (x, y, rest, p, q, is, more, whole) none = cc
one_bytes (b ∷ bs) (c ∷ cs) text (x, y, rest, p, q, is, more, whole) (u, v, other, l, m, are, after, all) =
    let third : other ≡ rest = cc in
    let tail : bs ≡ cs = one_bytes bs cs rest more (subst (AreDigitsOf cs) third after) in
    cc

-- The word that is next is `0x` and the digits of the bytes.
pub record BytesFront (bytes word left r : List ℕ) : Type 0 where
  pub digits : List ℕ
  pub held : AreDigitsOf bytes digits
  pub is : word ≡ 48 ∷ 120 ∷ digits
  pub same : left ≡ r

pub bytes_front : (bytes text word left r : List ℕ) → WordTaken text word left → TakesPhrase (IsByteString bytes) text r → EndsWord r → BytesFront bytes word left r
bytes_front bytes text word left r taken (front, (digits, held, spelled), whole) ends =
    let k = same_word 48 (120 ∷ digits) word text left r taken (front, spelled, whole) ends in
    record { digits = digits; held = held; is = sym k.0; same = sym k.1 }

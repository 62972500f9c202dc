-- Escapes in place of control characters don't change the tokens of a JSON text.
use Rattle.std.proofs.Common.{◌≡◌, ◌≢◌, ℕ, ◌+◌, ◌*◌, ◌/◌, ◌%◌, ◌<◌, ◌≤◌, Bool, true, false, cond, ◌==◌, ◌&&◌, nat_lt, nat_le, not, List, [], ◌∷◌, ◌++◌, flat_map, Option, Some, None, IsUtf8, inl, inr, ◌⊎◌, refl, sym, ap, ap₂, ◌∙◌, subst, arith, append_assoc}
use Rattle.std.proofs.lemmas.Bool.{cases_eq, cases_lt, ne_eqb, le-ltb, lt-leb, lt-ltb, le-leb, and_parts, eqb-true, ltb-true, cases_Bool, cond-true, cond-false, and_from, and_left, and_right, agree_below_at, not-true, eqb-false}
use Rattle.std.proofs.lemmas.Str.{chars-encodes, encode_ascii}
use Rattle.std.specs.Char.{digit_char, digit_value, is_digit}
use Rattle.std.specs.List.{AllPass}
use Rattle.std.specs.Str.{chars}
use lib.Utf8.{encode, encodes, next}
use Rattle.json.specs.Text.{content, plain, prepend, code_unit, short_escape}
use Rattle.json.specs.Word.{is_operator, is_space}
use Rattle.json.specs.Lex.{Lexeme, Mode, lex, lex_byte, between, in_string, operator, space, other}
use Rattle.json.specs.Print.{escape_byte, escape}
use Rattle.json.proofs.Printed.Strings.{escape_byte_plain}
use Rattle.postcard_schema_text.specs.FrontLemmas.{pass_head, pass_tail}
use Rattle.postcard_value_json.specs.Escaped.{unit_escape, escaped_char, escaped}

-- ---- the bytes

-- The same of bytes. The argument says whether the byte before is 194, with which the characters U+0080 to U+00BF begin.
unfoldable pub bytes_after : Bool → List ℕ → List ℕ
bytes_after false [] = []
bytes_after false (b ∷ bs) = cond (b == 194) (bytes_after true bs) (cond (b == 127) (unit_escape 127 ++ bytes_after false bs) (b ∷ bytes_after false bs))
bytes_after true [] = 194 ∷ []
bytes_after true (b ∷ bs) = cond (nat_le 128 b && nat_lt b 160) (unit_escape b ++ bytes_after false bs) (194 ∷ b ∷ bytes_after false bs)

abbrev pub bytes_of : List ℕ → List ℕ
bytes_of = bytes_after false

pub one_byte : (b : ℕ) (bs : List ℕ) → b ≢ 194 → b ≢ 127 → bytes_of (b ∷ bs) ≡ b ∷ bytes_of bs
unfolding bytes_after
one_byte b bs h k = rw (ne_eqb b 194 h, ne_eqb b 127 k) refl

control : (c : ℕ) → 127 ≤ c → c < 160 → escaped_char c ≡ unit_escape c
control c low high = rw (le-leb 127 c low, lt-ltb c 160 high) refl

no_control : (c : ℕ) → (c < 127) ⊎ (160 ≤ c) → escaped_char c ≡ encode c
no_control c (inl h) = rw (lt-leb 127 c h) refl
no_control c (inr h) = elim (cases_Bool (nat_le 127 c)) [
  | inl e ↦ rw (e, le-ltb c 160 h) refl
  | inr e ↦ rw e refl
]

one_char : (c : ℕ) (bs : List ℕ) → escaped_char c ≡ encode c → bytes_of (encode c ++ bs) ≡ encode c ++ bytes_of bs → bytes_of (encode c ++ bs) ≡ escaped_char c ++ bytes_of bs
one_char c bs e h = h ∙ ap (λ s. s ++ bytes_of bs) (sym e)

ascii : (c : ℕ) (bs : List ℕ) → c < 127 → bytes_of (encode c ++ bs) ≡ encode c ++ bytes_of bs
ascii c bs h = rw (encode_ascii c (omega (arith, h))) (one_byte c bs (λ e. omega arith) (λ e. omega arith))

two : (c : ℕ) → 128 ≤ c → c < 2048 → encode c ≡ (192 + c / 64) ∷ next c ∷ []
unfolding encode
two c low high = rw (le-ltb c 128 low, lt-ltb c 2048 high) refl

three : (c : ℕ) → 2048 ≤ c → c < 65536 → encode c ≡ (224 + c / 4096) ∷ next (c / 64) ∷ next c ∷ []
unfolding encode
three c low high = rw (le-ltb c 128 (omega arith), le-ltb c 2048 low, lt-ltb c 65536 high) refl

four : (c : ℕ) → 65536 ≤ c → encode c ≡ (240 + c / 262144) ∷ next (c / 4096) ∷ next (c / 64) ∷ next c ∷ []
unfolding encode
four c low = rw (le-ltb c 128 (omega arith), le-ltb c 2048 (omega arith), le-ltb c 65536 low) refl

high_byte : (c : ℕ) → (next c ≢ 194) × (next c ≢ 127)
high_byte c = (λ e. omega arith, λ e. omega arith)

next_byte : (c : ℕ) (bs : List ℕ) → bytes_of (next c ∷ bs) ≡ next c ∷ bytes_of bs
next_byte c bs = one_byte (next c) bs (high_byte c).0 (high_byte c).1

lead : (b : ℕ) (bs : List ℕ) → 195 ≤ b → bytes_of (b ∷ bs) ≡ b ∷ bytes_of bs
lead b bs h = one_byte b bs (λ e. omega arith) (λ e. omega arith)

of_194 : (c : ℕ) → 128 ≤ c → c < 192 → encode c ≡ 194 ∷ c ∷ []
of_194 c low high =
    let first : 192 + c / 64 ≡ 194 = omega arith in
    let second : next c ≡ c = omega arith in
    two c low (omega arith) ∙ ap₂ (λ a b. a ∷ b ∷ []) first second

-- The characters U+0080 to U+00BF: two bytes, the first of which is 194.
after_194 : (c : ℕ) (bs : List ℕ) → 128 ≤ c → c < 192 → bytes_of (encode c ++ bs) ≡ cond (nat_le 128 c && nat_lt c 160) (unit_escape c ++ bytes_of bs) (194 ∷ c ∷ bytes_of bs)
unfolding bytes_after
after_194 c bs low high = ap (λ s. bytes_after false (s ++ bs)) (of_194 c low high)

wide : (c : ℕ) (bs : List ℕ) → 192 ≤ c → bytes_of (encode c ++ bs) ≡ encode c ++ bytes_of bs
wide c bs low = elim (cases_lt c 2048) [
  | inl h ↦ rw (two c (omega arith) h) (lead _ _ (omega arith) ∙ ap (λ s. (192 + c / 64) ∷ s) (next_byte c bs))
  | inr k ↦ elim (cases_lt c 65536) [
    | inl h ↦ rw (three c k h) (lead _ _ (omega arith) ∙ ap (λ s. (224 + c / 4096) ∷ s) (next_byte (c / 64) _ ∙ ap (λ s. next (c / 64) ∷ s) (next_byte c bs)))
    | inr h ↦ rw (four c h) (lead _ _ (omega arith) ∙ ap (λ s. (240 + c / 262144) ∷ s) (next_byte (c / 4096) _ ∙ ap (λ s. next (c / 4096) ∷ s) (next_byte (c / 64) _ ∙ ap (λ s. next (c / 64) ∷ s) (next_byte c bs))))
  ]
]

delete_bytes : (bs : List ℕ) → bytes_of (encode 127 ++ bs) ≡ escaped_char 127 ++ bytes_of bs
unfolding bytes_after encode
delete_bytes bs = refl

char_bytes : (c : ℕ) (bs : List ℕ) → bytes_of (encode c ++ bs) ≡ escaped_char c ++ bytes_of bs
char_bytes c bs = elim (cases_lt c 127) [
  | inl h ↦ one_char c bs (no_control c (inl h)) (ascii c bs h)
  | inr low ↦ elim (cases_eq c 127) [
    | inl same ↦ subst (λ d. bytes_of (encode d ++ bs) ≡ escaped_char d ++ bytes_of bs) (sym same) (delete_bytes bs)
    | inr ne ↦ elim (cases_lt c 160) [
      | inl h ↦
          after_194 c bs (omega arith) (omega arith) ∙ cond-true _ _ _ (and_from _ _ (le-leb 128 c (omega arith)) (lt-ltb c 160 h))
          ∙ ap (λ s. s ++ bytes_of bs) (sym (control c low h))
      | inr k ↦ elim (cases_lt c 192) [
        | inl h ↦
            one_char c bs (no_control c (inr k))
            (after_194 c bs (omega arith) h ∙ cond-false _ _ _ (and_right (nat_le 128 c) _ (le-ltb c 160 k)) ∙ ap (λ s. s ++ bytes_of bs) (sym (of_194 c (omega arith) h)))
        | inr h ↦ one_char c bs (no_control c (inr (omega arith))) (wide c bs h)
      ]
    ]
  ]
]

-- The escaped text, from its bytes.
chars_bytes : (cs : List ℕ) → bytes_of (encodes cs) ≡ flat_map escaped_char cs
unfolding bytes_after
chars_bytes [] = refl
chars_bytes (c ∷ cs) = char_bytes c (encodes cs) ∙ ap (λ s. escaped_char c ++ s) (chars_bytes cs)

plain_bytes : (bs : List ℕ) → AllPass (λ byte. nat_lt byte 127) bs → bytes_of bs ≡ bs
unfolding bytes_after
plain_bytes [] pass = refl
plain_bytes (b ∷ bs) pass =
    let low : b < 127 = ltb-true b 127 (pass_head (λ byte. nat_lt byte 127) b bs pass) in
    one_byte b bs (λ e. omega (arith, low)) (λ e. omega (arith, low)) ∙ ap (λ s. b ∷ s) (plain_bytes bs (pass_tail (λ byte. nat_lt byte 127) b bs pass))

-- Escaping the characters of a text is the same as escaping its bytes one by one.
pub escaped_bytes : (text : List ℕ) → IsUtf8 text → escaped text ≡ bytes_of text
escaped_bytes text (cs, (are, e)) =
    ap (λ t. flat_map escaped_char (chars t)) (sym e) ∙ ap (flat_map escaped_char) (chars-encodes cs are) ∙ sym (chars_bytes cs) ∙ ap bytes_of e

-- A text of bytes below 127 has no escape.
pub plain_text : (text : List ℕ) → IsUtf8 text → AllPass (λ byte. nat_lt byte 127) text → escaped text ≡ text
plain_text text utf8 pass = escaped_bytes text utf8 ∙ plain_bytes text pass

-- ---- strings

-- The digits of an escape are hexadecimal.
is_good_digit : ℕ → Bool
is_good_digit h = is_digit (digit_char h) 16 && ((digit_value (digit_char h) == h) && (not (digit_char h == 34) && (not (digit_char h == 92) && nat_lt (digit_char h) 127)))

record Digit (h : ℕ) : Type 0 where
  is : is_digit (digit_char h) 16 ≡ true
  value : digit_value (digit_char h) ≡ h
  quote : digit_char h ≢ 34
  backslash : digit_char h ≢ 92
  low : digit_char h < 127

digit : (h : ℕ) → h < 16 → Digit h
unfolding is_good_digit
digit h small =
    let good : is_good_digit h ≡ true = agree_below_at is_good_digit (λ n. true) 16 h refl small in
    let a = and_parts (is_digit (digit_char h) 16) _ good in
    let b = and_parts (digit_value (digit_char h) == h) _ a.1 in
    let d = and_parts (not (digit_char h == 34)) _ b.1 in
    let e = and_parts (not (digit_char h == 92)) _ d.1 in
    record {
      is = a.0;
      value = eqb-true _ _ b.0;
      quote = eqb-false _ _ (not-true _ d.0);
      backslash = eqb-false _ _ (not-true _ e.0);
      low = ltb-true _ _ e.1;
    }

unit_code : (c : ℕ) → c < 256 → code_unit 48 48 (digit_char (c / 16)) (digit_char (c % 16)) ≡ Some c
unfolding code_unit
unit_code c small =
    let h = digit (c / 16) (omega arith) in
    let l = digit (c % 16) (omega arith) in
    let value : 0 * 4096 + 0 * 256 + (c / 16) * 16 + c % 16 ≡ c = omega arith in
    rw (h.is, l.is, h.value, l.value) (ap Some value)

unit_read : (c : ℕ) (bs : List ℕ) → c < 256 → content plain (unit_escape c ++ bs) ≡ prepend (encode c) (content plain bs)
unfolding content
unit_read c bs small = rw (unit_code c small, lt-leb 55296 c (omega arith), lt-leb 56320 c (omega arith)) refl

stays : (o s : Bool) (x : ℕ) (bs : List ℕ) (k : Mode → List Lexeme) → lex_byte in_string (cond o operator (cond s space other)) x bs k ≡ k in_string
stays true s x bs k = refl
stays false true x bs k = refl
stays false false x bs k = refl

within : (x : ℕ) (bs : List ℕ) → x ≢ 34 → x ≢ 92 → lex in_string (x ∷ bs) ≡ lex in_string bs
unfolding lex
within x bs q b = rw (ne_eqb x 34 q, ne_eqb x 92 b) (stays (is_operator x) (is_space x) x bs (λ m. lex m bs))

unit_lexed : (c : ℕ) (bs : List ℕ) → c < 256 → lex in_string (unit_escape c ++ bs) ≡ lex in_string bs
unfolding lex
unit_lexed c bs small =
    let h = digit (c / 16) (omega arith) in
    let l = digit (c % 16) (omega arith) in
    within (digit_char (c / 16)) _ h.quote h.backslash ∙ within (digit_char (c % 16)) bs l.quote l.backslash

unit_kept : (c : ℕ) (bs : List ℕ) → c < 256 → bytes_of (unit_escape c ++ bs) ≡ unit_escape c ++ bytes_of bs
unfolding bytes_after
unit_kept c bs small =
    let h = digit (c / 16) (omega arith) in
    let l = digit (c % 16) (omega arith) in
    let low : digit_char (c / 16) < 127 = h.low in
    let below : digit_char (c % 16) < 127 = l.low in
    ap (λ s. 92 ∷ 117 ∷ 48 ∷ 48 ∷ s)
    (one_byte (digit_char (c / 16)) (digit_char (c % 16) ∷ bs) (λ e. omega arith) (λ e. omega arith) ∙ ap (λ s. digit_char (c / 16) ∷ s) (one_byte (digit_char (c % 16)) bs (λ e. omega arith) (λ e. omega arith)))

-- What is printed before the remaining bytes, if a byte 194 was read and not printed yet.
abbrev pub before : Bool → List ℕ
before f = cond f (194 ∷ []) []

-- What is printed for a byte of a string, and what both readers make of it.
record Step (f : Bool) (x : ℕ) : Type 0 where
  after : Bool
  out : List ℕ
  held : List ℕ
  is : (bs : List ℕ) → bytes_after f (escape_byte x ++ bs) ≡ out ++ bytes_after after bs
  read : (bs : List ℕ) → content plain (out ++ bs) ≡ prepend held (content plain bs)
  lexed : (bs : List ℕ) → lex in_string (out ++ bs) ≡ lex in_string bs
  same : before f ++ x ∷ [] ≡ held ++ before after

prepend_two : (a : ℕ) (xs : List ℕ) (o : Option (List ℕ)) → prepend (a ∷ []) (prepend xs o) ≡ prepend (a ∷ xs) o
prepend_two a xs None = refl
prepend_two a xs (Some s) = refl

-- The step after a byte 194, for a byte that is printed as ASCII.
after_lead : (x : ℕ) (out : List ℕ) → ((bs : List ℕ) → bytes_after true (escape_byte x ++ bs) ≡ 194 ∷ (out ++ bytes_of bs)) → ((bs : List ℕ) → content plain (out ++ bs) ≡ prepend (x ∷ []) (content plain bs))
    → ((bs : List ℕ) → lex in_string (out ++ bs) ≡ lex in_string bs) → Step true x
unfolding content lex
after_lead x out kept reads passes = record {
  after = false;
  out = 194 ∷ out;
  held = 194 ∷ x ∷ [];
  is = kept;
  read = λ bs. ap (prepend (194 ∷ [])) (reads bs) ∙ prepend_two 194 (x ∷ []) (content plain bs);
  lexed = passes;
  same = refl;
}

-- The step at a byte that is printed as ASCII.
ascii_step : (f : Bool) (x : ℕ) (out : List ℕ) → ((bs : List ℕ) → bytes_after false (escape_byte x ++ bs) ≡ out ++ bytes_of bs)
    → ((bs : List ℕ) → bytes_after true (escape_byte x ++ bs) ≡ 194 ∷ (out ++ bytes_of bs)) → ((bs : List ℕ) → content plain (out ++ bs) ≡ prepend (x ∷ []) (content plain bs))
    → ((bs : List ℕ) → lex in_string (out ++ bs) ≡ lex in_string bs) → Step f x
ascii_step false x out kept lead reads passes = record { after = false; out = out; held = x ∷ []; is = kept; read = reads; lexed = passes; same = refl }
ascii_step true x out kept lead reads passes = after_lead x out lead reads passes

-- The steps at the bytes that have a short escape.
shorts : (f : Bool) → Step f 34 × Step f 92 × Step f 8 × Step f 12 × Step f 10 × Step f 13 × Step f 9
unfolding bytes_after content lex short_escape escape_byte
shorts f = (
  ascii_step f 34 (92 ∷ 34 ∷ []) (λ bs. refl) (λ bs. refl) (λ bs. refl) (λ bs. refl),
  ascii_step f 92 (92 ∷ 92 ∷ []) (λ bs. refl) (λ bs. refl) (λ bs. refl) (λ bs. refl),
  ascii_step f 8 (92 ∷ 98 ∷ []) (λ bs. refl) (λ bs. refl) (λ bs. refl) (λ bs. refl),
  ascii_step f 12 (92 ∷ 102 ∷ []) (λ bs. refl) (λ bs. refl) (λ bs. refl) (λ bs. refl),
  ascii_step f 10 (92 ∷ 110 ∷ []) (λ bs. refl) (λ bs. refl) (λ bs. refl) (λ bs. refl),
  ascii_step f 13 (92 ∷ 114 ∷ []) (λ bs. refl) (λ bs. refl) (λ bs. refl) (λ bs. refl),
  ascii_step f 9 (92 ∷ 116 ∷ []) (λ bs. refl) (λ bs. refl) (λ bs. refl) (λ bs. refl),
)

unit_byte : (x : ℕ) → x < 32 → x ≢ 8 → x ≢ 12 → x ≢ 10 → x ≢ 13 → x ≢ 9 → escape_byte x ≡ unit_escape x
unfolding escape_byte
unit_byte x low a b c d e = rw (ne_eqb x 34 (λ i. omega arith), ne_eqb x 92 (λ i. omega arith), ne_eqb x 8 a, ne_eqb x 12 b, ne_eqb x 10 c, ne_eqb x 13 d, ne_eqb x 9 e, lt-ltb x 32 low) refl

unit_step : (f : Bool) (x : ℕ) → x < 32 → escape_byte x ≡ unit_escape x → Step f x
unfolding bytes_after
unit_step f x low e =
    ascii_step f x (unit_escape x) (λ bs. ap (λ u. bytes_of (u ++ bs)) e ∙ unit_kept x bs (omega (arith, low)))
    (λ bs. ap (λ u. bytes_after true (u ++ bs)) e ∙ ap (λ s. 194 ∷ s) (unit_kept x bs (omega (arith, low))))
    (λ bs. unit_read x bs (omega (arith, low)) ∙ ap (λ u. prepend u (content plain bs)) (encode_ascii x (omega (arith, low)))) (λ bs. unit_lexed x bs (omega (arith, low)))

plain_read : (x : ℕ) (bs : List ℕ) → x ≢ 34 → x ≢ 92 → 32 ≤ x → content plain (x ∷ bs) ≡ prepend (x ∷ []) (content plain bs)
unfolding content
plain_read x bs q b l = rw (ne_eqb x 34 q, ne_eqb x 92 b, le-ltb x 32 l) refl

prepend_none : (o : Option (List ℕ)) → o ≡ prepend [] o
prepend_none None = refl
prepend_none (Some s) = refl

lead_step : Step false 194
unfolding bytes_after escape_byte
lead_step = record { after = true; out = []; held = []; is = λ bs. refl; read = λ bs. prepend_none (content plain bs); lexed = λ bs. refl; same = refl }

delete_step : Step false 127
unfolding bytes_after escape_byte encode
delete_step = record { after = false; out = unit_escape 127; held = 127 ∷ []; is = λ bs. refl; read = λ bs. unit_read 127 bs (omega arith); lexed = λ bs. unit_lexed 127 bs (omega arith); same = refl }

-- What holds at y holds at x if they are equal. Otherwise it has to be shown with that.
at_byte : (P : ℕ → Type 0) (x y : ℕ) → P y → (x ≢ y → P x) → P x
at_byte P x y here unequal = elim (cases_eq x y) [
  | inl e ↦ subst P (sym e) here
  | inr apart ↦ unequal apart
]

-- The step at a byte that isn't escaped in a string. After 194, one of the bytes 128 to 159 makes a control character.
plain_step : (f : Bool) (x : ℕ) → x ≢ 34 → x ≢ 92 → 32 ≤ x → Step f x
unfolding bytes_after
plain_step false x q b l = at_byte (Step false) x 194 lead_step (λ n. at_byte (Step false) x 127 delete_step (λ m. record {
  after = false;
  out = x ∷ [];
  held = x ∷ [];
  is = λ bs. ap (λ u. bytes_of (u ++ bs)) (escape_byte_plain x q b l) ∙ one_byte x bs n m;
  read = λ bs. plain_read x bs q b l;
  lexed = λ bs. within x bs q b;
  same = refl;
}))
plain_step true x q b l =
    let e = escape_byte_plain x q b l in
    let passed : nat_le 128 x && nat_lt x 160 ≡ false → Step true x = λ no.
    after_lead x (x ∷ []) (λ bs. ap (λ u. bytes_after true (u ++ bs)) e ∙ cond-false _ _ _ no) (λ bs. plain_read x bs q b l) (λ bs. within x bs q b) in
    elim (cases_lt x 128) [
      | inl h ↦ passed (and_left (nat_le 128 x) _ (lt-leb 128 x h))
      | inr low ↦ elim (cases_lt x 160) [
        | inr h ↦ passed (and_right (nat_le 128 x) _ (le-ltb x 160 h))
        | inl h ↦ record {
          after = false;
          out = unit_escape x;
          held = 194 ∷ x ∷ [];
          is = λ bs. ap (λ u. bytes_after true (u ++ bs)) e ∙ cond-true _ _ _ (and_from _ _ (le-leb 128 x low) (lt-ltb x 160 h));
          read = λ bs. unit_read x bs (omega arith) ∙ ap (λ u. prepend u (content plain bs)) (of_194 x low (omega arith));
          lexed = λ bs. unit_lexed x bs (omega arith);
          same = refl;
        }
      ]
    ]

step : (f : Bool) (x : ℕ) → Step f x
step f x =
    let (quote, backslash, b, ff, n, r, t) = shorts f in
    let at = at_byte (Step f) x in
    at 34 quote (λ no_34. at 92 backslash (λ no_92. elim (cases_lt x 32) [
      | inr l ↦ plain_step f x no_34 no_92 l
      | inl low ↦ at 8 b (λ no_8. at 12 ff (λ no_12. at 10 n (λ no_10. at 13 r (λ no_13. at 9 t (λ no_9. unit_step f x low (unit_byte x low no_8 no_12 no_10 no_13 no_9))))))
    ]))

-- The content of an escaped string is that of the string.
pub string_read : (f : Bool) (s bs : List ℕ) → content plain (bytes_after f (escape s ++ 34 ∷ bs)) ≡ Some (before f ++ s)
unfolding bytes_after content
string_read false [] bs = refl
string_read true [] bs = refl
string_read f (x ∷ s) bs =
    let k = step f x in
    let joined : k.held ++ (before k.after ++ s) ≡ before f ++ x ∷ s = sym (append_assoc k.held (before k.after) s) ∙ ap (λ u. u ++ s) (sym k.same) ∙ append_assoc (before f) (x ∷ []) s in
    ap (λ u. content plain (bytes_after f u)) (append_assoc (escape_byte x) (escape s) (34 ∷ bs)) ∙ ap (content plain) (k.is _) ∙ k.read _
    ∙ ap (prepend k.held) (string_read k.after s bs) ∙ ap Some joined

-- After an escaped string, the tokens go on as after the string.
pub string_lexed : (f : Bool) (s bs : List ℕ) → lex in_string (bytes_after f (escape s ++ 34 ∷ bs)) ≡ lex between (bytes_of bs)
unfolding bytes_after lex
string_lexed false [] bs = refl
string_lexed true [] bs = refl
string_lexed f (x ∷ s) bs =
    let k = step f x in
    ap (λ u. lex in_string (bytes_after f u)) (append_assoc (escape_byte x) (escape s) (34 ∷ bs)) ∙ ap (lex in_string) (k.is _) ∙ k.lexed _ ∙ string_lexed k.after s bs

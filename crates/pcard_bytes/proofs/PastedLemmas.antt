-- A text of hexadecimal digits is read part by part: a text is lines, and a line is words. One loop invariant, `IsReadUpTo`, serves
-- both loops. The byte 10 is a new line.
use Rattle.std.proofs.Common.{arith, ◌≡◌, ℕ, suc, ◌+◌, ◌-◌, ◌<◌, ◌≤◌, Bool, true, false, ◌⊎◌, inl, inr, List, [], ◌∷◌, ◌++◌, length, min, ◌||◌, take, drop, get_or, Some, None, add-one, refl, sym, ap, subst, ◌∙◌}
use Rattle.std.proofs.lemmas.Bool.{cases_lt, lt-ltb}
use Rattle.std.proofs.Math.Seq.{drop-cons, take-suc}
use Rattle.std.proofs.lemmas.List.{append_assoc, append-nil, length-drop, length-take-le, nil_from_length, take_all}
use Rattle.std.proofs.lemmas.List.Elements.{All-from_get_or}
use Rattle.std.proofs.lemmas.List.Quantifiers.{position-Some}
use Rattle.std.proofs.lemmas.List.Splits.{slice_split_first, slice_split_none}
use Rattle.std.proofs.lemmas.List.Sums.{position_or_len_is, fails_before_first}
use Rattle.std.specs.Prelude.{◌==◌, nat_eq, Ok, Err, codes, IfErr, IsErr, Result}
use Rattle.std.specs.List.{list_any, position, position_or_len, slice_split, starts_with}
use Rattle.std.specs.Str.{IsTrimAsciiStart}
use Rattle.hex.specs.Hex.{decode_of}
use Rattle.postcard_schema_text.specs.Text.{characters, unblank}
use Rattle.postcard_schema_text.specs.FrontLemmas.{trim_is}
use Rattle.pcard_bytes.specs.declared.input.InputError.{InputError}
use Rattle.pcard_bytes.specs.declared.input.InputError.TheVariants.{BadHex, OutOfMemory}
use Rattle.pcard_bytes.specs.Hexadecimal.{AreBytesOf, IsWrongAt, IsWord, IsWrongWord, IsLine, IsWrongLine, SpellsBytes, IsWrongHex, digits_of, words_of, column_of, lines_of, is_dump, start_of, is_of_xxd, up_to}

-- ---- one text denotes one list of bytes, or is wrong

-- If each part denotes at most one list of bytes, so does a row of parts.
bytes_one : (Is : List ℕ → List ℕ → Type 0) → ((x a b : List ℕ) → Is x a → Is x b → a ≡ b) → (xs : List (List ℕ)) (a b : List ℕ)
    → AreBytesOf Is xs a → AreBytesOf Is xs b → a ≡ b
bytes_one Is one [] a b h k = h ∙ sym k
bytes_one Is one (x ∷ xs) a b (f, r, is, more, joins) (g, s, other, others, joined) =
    let first : f ≡ g = one x f g is other in
    let rest : r ≡ s = bytes_one Is one xs r s more others in
    cc

-- If no wrong part denotes bytes, a row of parts with a wrong one denotes none.
bytes_none : (Is : List ℕ → List ℕ → Type 0) (IsWrong : List ℕ → ℕ → Type 0) → ((x a : List ℕ) (n : ℕ) → IsWrong x n → Is x a → ⊥)
    → (xs : List (List ℕ)) (a : List ℕ) (n : ℕ) → IsWrongAt Is IsWrong xs n → AreBytesOf Is xs a → ⊥
bytes_none Is IsWrong none [] a n h k = h
bytes_none Is IsWrong none (x ∷ xs) a n (inl wrong) (f, r, is, more, joins) = none x f n wrong is
bytes_none Is IsWrong none (x ∷ xs) a n (inr (g, m, other, place, wrong)) (f, r, is, more, joins) = bytes_none Is IsWrong none xs r m wrong more

-- A word denotes at most one list of bytes.
word_one : (x a b : List ℕ) → IsWord x a → IsWord x b → a ≡ b
word_one x a b h k = cc

-- A result that is an error isn't `Ok`.
failed_not : {A E : Type 0} (r : Result A E) (a : A) → IsErr r → r ≡ Ok a → ⊥
failed_not (Ok b) a h is = cc h
failed_not (Err e) a h is = cc is

-- A wrong word denotes no bytes.
word_none : (x a : List ℕ) (n : ℕ) → IsWrongWord x n → IsWord x a → ⊥
word_none x a n (bad, place) is = failed_not (decode_of (digits_of x)) a bad is

-- A line denotes at most one list of bytes.
line_one : (dump : Bool) (x a b : List ℕ) → IsLine dump x a → IsLine dump x b → a ≡ b
line_one dump x a b h k = bytes_one IsWord word_one (words_of (column_of dump x)) a b h k

-- A wrong line denotes no bytes.
line_none : (dump : Bool) (x a : List ℕ) (n : ℕ) → IsWrongLine dump x n → IsLine dump x a → ⊥
line_none dump x a n (m, place, wrong) is = bytes_none IsWord IsWrongWord word_none (words_of (column_of dump x)) a m wrong is

-- A text denotes at most one list of bytes.
pub text_one : (text a b : List ℕ) → SpellsBytes text a → SpellsBytes text b → a ≡ b
text_one text a b h k = bytes_one (IsLine (is_dump text)) (line_one (is_dump text)) (lines_of text) a b h k

-- A text with a wrong line denotes no bytes.
text_none : (text a : List ℕ) (n : ℕ) → IsWrongAt (IsLine (is_dump text)) (IsWrongLine (is_dump text)) (lines_of text) n → SpellsBytes text a → ⊥
text_none text a n wrong is =
    bytes_none (IsLine (is_dump text)) (IsWrongLine (is_dump text)) (line_none (is_dump text)) (lines_of text) a n wrong is

-- ---- the first part of a text

-- If the first byte that passes is at index i, splitting gives the i bytes before it, and then the parts of the bytes after it.
first_part : (p : ℕ → Bool) (xs : List ℕ) (i : ℕ) → position p xs ≡ Some i → slice_split p xs ≡ take i xs ∷ slice_split p (drop (i + 1) xs)
first_part p xs i is =
    let (low, here, none) = position-Some p xs i 0 is in
    let at : position_or_len p xs ≡ i = position_or_len_is p xs i 0 (omega arith) none (λ _. here) in
    rw at at (slice_split_first p xs 0 (omega (arith, at)))

-- If no byte passes, `position_or_len` is at least the length.
none_passes : (p : ℕ → Bool) (xs : List ℕ) → position p xs ≡ None → length xs ≤ position_or_len p xs
none_passes p xs none = elim (cases_lt (position_or_len p xs) (length xs)) [
  | inl low ↦ let test = lt-ltb (position_or_len p xs) (length xs) low in cc (rw test at none)
  | inr high ↦ high
]

-- If no byte passes, splitting gives one part, which is the whole text.
last_part : (p : ℕ → Bool) (xs : List ℕ) → position p xs ≡ None → slice_split p xs ≡ xs ∷ []
last_part p xs none =
    let far = none_passes p xs none in
    slice_split_none p xs (All-from_get_or (λ b. p b ≡ false) xs 0 (λ k low. fails_before_first p xs k 0 (omega arith)))

-- The slice from index n up to the length is the text without its first n bytes.
rest_after : (n : ℕ) (xs : List ℕ) → take (length xs - n) (drop n xs) ≡ drop n xs
rest_after n xs = take_all (length xs - n) (drop n xs) (omega (arith, length-drop n xs))

-- ---- what is read so far

-- The parts before `rest` are read, and denote `bytes`. With bytes of the parts of `rest`, they are those of the text. A wrong part
-- of `rest` is one of the text, further on by the bytes that are read.
pub record IsReadUpTo (Is : List ℕ → List ℕ → Type 0) (IsWrong : List ℕ → ℕ → Type 0) (p : ℕ → Bool) (text bytes rest : List ℕ) : Type 0 where
  pub gives : (back : List ℕ) → AreBytesOf Is (slice_split p rest) back → AreBytesOf Is (slice_split p text) (bytes ++ back)
  pub wrong : (m : ℕ) → IsWrongAt Is IsWrong (slice_split p rest) m → IsWrongAt Is IsWrong (slice_split p text) (length text - length rest + m)
  pub fits : length rest ≤ length text

-- The invariant of the loop holds before the first part is read.
pub up_to-start : (Is : List ℕ → List ℕ → Type 0) (IsWrong : List ℕ → ℕ → Type 0) (p : ℕ → Bool) (text : List ℕ) → IsReadUpTo Is IsWrong p text [] text
up_to-start Is IsWrong p text = record {
  gives = λ back h. h;
  wrong = λ m h. subst (IsWrongAt Is IsWrong (slice_split p text)) (omega arith) h;
  fits = omega arith;
}

-- The invariant holds after one more part is read.
up_to-more : (Is : List ℕ → List ℕ → Type 0) (IsWrong : List ℕ → ℕ → Type 0) (p : ℕ → Bool) (text bytes rest front : List ℕ) (i : ℕ)
    → IsReadUpTo Is IsWrong p text bytes rest → position p rest ≡ Some i → Is (take i rest) front → IsReadUpTo Is IsWrong p text (bytes ++ front) (drop (i + 1) rest)
up_to-more Is IsWrong p text bytes rest front i before is one =
    let (low, here, none) = position-Some p rest i 0 is in
    let first = first_part p rest i is in
    let fits = before.fits in
    let long = length-take-le i rest (omega arith) in
    let left = length-drop (i + 1) rest in
    record {
      gives = λ back h.
          subst (AreBytesOf Is (slice_split p text)) (sym (append_assoc bytes front back))
          (before.gives (front ++ back) (subst (λ (parts : List (List ℕ)). AreBytesOf Is parts (front ++ back)) (sym first) (front, back, one, h, refl)));
      wrong = λ m h.
          let place : i + 1 + m ≡ length (take i rest) + 1 + m = omega (arith, long) in
          let whole : length text - length rest + (i + 1 + m) ≡ length text - length (drop (i + 1) rest) + m = omega (arith, left, fits, low) in
          subst (IsWrongAt Is IsWrong (slice_split p text)) whole
          (before.wrong (i + 1 + m) (subst (λ (parts : List (List ℕ)). IsWrongAt Is IsWrong parts (i + 1 + m)) (sym first) (inr (front, m, one, place, h))));
      fits = omega (arith, left, fits);
    }

-- The same in the terms of the code: the remaining text is a slice, and `new` is the bytes so far and then those of the part.
pub up_to-step : (Is : List ℕ → List ℕ → Type 0) (IsWrong : List ℕ → ℕ → Type 0) (p : ℕ → Bool) (text bytes rest front read new : List ℕ) (i : ℕ)
    → IsReadUpTo Is IsWrong p text bytes rest → position p rest ≡ Some i → Is (take i rest) front → read ≡ front → new ≡ bytes ++ read
    → IsReadUpTo Is IsWrong p text new (take (length rest - (i + 1)) (drop (i + 1) rest))
up_to-step Is IsWrong p text bytes rest front read new i before is one same all =
    rw (all, same, rest_after (i + 1) rest) (up_to-more Is IsWrong p text bytes rest front i before is one)

-- If no byte of the remaining text passes, it is the last part, and with its bytes all bytes of the text are read.
pub up_to-end : (Is : List ℕ → List ℕ → Type 0) (IsWrong : List ℕ → ℕ → Type 0) (p : ℕ → Bool) (text bytes rest front read new : List ℕ)
    → IsReadUpTo Is IsWrong p text bytes rest → position p rest ≡ None → Is rest front → read ≡ front → new ≡ bytes ++ read → AreBytesOf Is (slice_split p text) new
up_to-end Is IsWrong p text bytes rest front read new before none one same all =
    rw (all, same) (before.gives front (subst (λ (parts : List (List ℕ)). AreBytesOf Is parts front) (sym (last_part p rest none)) (front, [], one, refl, sym (append-nil front))))

-- The failure is `BadHex` with the number of the character, counted from 1, that is wrong in the part at `place`, or `OutOfMemory`.
abbrev pub FailsAt : (ℕ → Type 0) → List ℕ → ℕ → InputError → Type 0
FailsAt IsWrong whole place e =
    ((n : ℕ) × (e ≡ BadHex (characters (take (place + n) whole) + 1)) × IsWrong n) ⊎ (e ≡ OutOfMemory)

-- If reading the next part fails, the text is wrong there, or memory ran out.
pub up_to-refused : (Is : List ℕ → List ℕ → Type 0) (IsWrong : List ℕ → ℕ → Type 0) (p : ℕ → Bool) (text bytes rest whole : List ℕ) (place i : ℕ) (e : InputError)
    → IsReadUpTo Is IsWrong p text bytes rest → position p rest ≡ Some i
    → FailsAt (IsWrong (take i rest)) whole (place + (length text - length rest)) e → FailsAt (IsWrongAt Is IsWrong (slice_split p text)) whole place e
up_to-refused Is IsWrong p text bytes rest whole place i e before is (inl (n, fails, wrong)) = inl (
  length text - length rest + n,
  subst (λ (k : ℕ). e ≡ BadHex (characters (take k whole) + 1)) (omega arith) fails,
  before.wrong n (subst (λ (parts : List (List ℕ)). IsWrongAt Is IsWrong parts n) (sym (first_part p rest i is)) (inl wrong)),
)
up_to-refused Is IsWrong p text bytes rest whole place i e before is (inr memory) = inr memory

-- If reading the last part fails, the text is wrong there, or memory ran out.
pub up_to-refused_last : (Is : List ℕ → List ℕ → Type 0) (IsWrong : List ℕ → ℕ → Type 0) (p : ℕ → Bool) (text bytes rest whole : List ℕ) (place : ℕ) (e : InputError)
    → IsReadUpTo Is IsWrong p text bytes rest → position p rest ≡ None
    → FailsAt (IsWrong rest) whole (place + (length text - length rest)) e → FailsAt (IsWrongAt Is IsWrong (slice_split p text)) whole place e
up_to-refused_last Is IsWrong p text bytes rest whole place e before none (inl (n, fails, wrong)) = inl (
  length text - length rest + n,
  subst (λ (k : ℕ). e ≡ BadHex (characters (take k whole) + 1)) (omega arith) fails,
  before.wrong n (subst (λ (parts : List (List ℕ)). IsWrongAt Is IsWrong parts n) (sym (last_part p rest none)) (inl wrong)),
)
up_to-refused_last Is IsWrong p text bytes rest whole place e before none (inr memory) = inr memory

-- ---- the digits of a word

-- If the first byte that passes is at index i, then i is the least of its index and the index of the last byte.
pub wrong-other : (p : ℕ → Bool) (xs : List ℕ) (i : ℕ) → position p xs ≡ Some i → i ≡ min (position_or_len p xs) (length xs - 1)
wrong-other p xs i is =
    let (low, here, none) = position-Some p xs i 0 is in
    let at : position_or_len p xs ≡ i = position_or_len_is p xs i 0 (omega arith) none (λ _. here) in
    rw at (omega arith)

-- If no byte passes, the index of the last byte is the least of the two: so `wrong_digit` is the last byte if all are digits.
pub wrong-last : (p : ℕ → Bool) (xs : List ℕ) → position p xs ≡ None → length xs - 1 ≡ min (position_or_len p xs) (length xs - 1)
wrong-last p xs none = let far = none_passes p xs none in omega (arith, far)

-- ---- the lines of a text

-- If the first part passes the test, some part does.
pub any-first : (q : List ℕ → Bool) (p : ℕ → Bool) (xs : List ℕ) (i : ℕ) → position p xs ≡ Some i → q (take i xs) ≡ true → list_any q (slice_split p xs) ≡ true
any-first q p xs i is passes = ap (list_any q) (first_part p xs i is) ∙ rw passes refl

-- If the first part doesn't pass the test, some part does exactly if one of the remaining text does.
pub any-after : (q : List ℕ → Bool) (p : ℕ → Bool) (xs : List ℕ) (i : ℕ) → position p xs ≡ Some i → q (take i xs) ≡ false
    → list_any q (slice_split p xs) ≡ list_any q (slice_split p (take (length xs - (i + 1)) (drop (i + 1) xs)))
any-after q p xs i is fails = rw (rest_after (i + 1) xs) (ap (list_any q) (first_part p xs i is) ∙ rw fails refl)

-- The slice from index n on is no longer than the text.
pub after_fits : (n : ℕ) (xs : List ℕ) → length (take (length xs - n) (drop n xs)) ≤ length xs
after_fits n xs = rw (rest_after n xs) (omega (arith, length-drop n xs))

-- If the text is one part, some part passes the test exactly if the text does.
pub any-last : (q : List ℕ → Bool) (p : ℕ → Bool) (xs : List ℕ) → position p xs ≡ None → list_any q (slice_split p xs) ≡ q xs
any-last q p xs none = ap (list_any q) (last_part p xs none) ∙ or_false (q xs)
  where
    or_false : (b : Bool) → (b || false) ≡ b
    or_false true = refl
    or_false false = refl

-- ---- the failure of the whole text

-- If the failure is that of a wrong line of the text, the text denotes no bytes, and the failure names its first wrong character.
pub text_fails : (text : List ℕ) (e : InputError) → FailsAt (IsWrongAt (IsLine (is_dump text)) (IsWrongLine (is_dump text)) (lines_of text)) text 0 e
    → ((n : ℕ) × (e ≡ BadHex n) × IsWrongHex text n) ⊎ (e ≡ OutOfMemory)
text_fails text e (inl (m, fails, wrong)) = inl (
  characters (take m text) + 1,
  subst (λ (k : ℕ). e ≡ BadHex (characters (take k text) + 1)) (omega arith) fails,
  (λ bytes is. text_none text bytes m wrong is, (m, refl, wrong)),
)
text_fails text e (inr memory) = inr memory

-- If reading the next line fails, the failure is that of the text.
pub text_refused : (text bytes rest : List ℕ) (i : ℕ) (e : InputError) → IsReadUpTo (IsLine (is_dump text)) (IsWrongLine (is_dump text)) (λ b. b == 10) text bytes rest
    → position (λ b. b == 10) rest ≡ Some i → FailsAt (IsWrongLine (is_dump text) (take i rest)) text (length text - length rest) e
    → ((n : ℕ) × (e ≡ BadHex n) × IsWrongHex text n) ⊎ (e ≡ OutOfMemory)
text_refused text bytes rest i e before is fails = text_fails text e
    (up_to-refused (IsLine (is_dump text)) (IsWrongLine (is_dump text)) (λ b. b == 10) text bytes rest text 0 i e before is
    (subst (λ (k : ℕ). FailsAt (IsWrongLine (is_dump text) (take i rest)) text k e) (omega arith) fails))

-- If reading the last line fails, the failure is that of the text.
pub text_refused_last : (text bytes rest : List ℕ) (e : InputError) → IsReadUpTo (IsLine (is_dump text)) (IsWrongLine (is_dump text)) (λ b. b == 10) text bytes rest
    → position (λ b. b == 10) rest ≡ None → FailsAt (IsWrongLine (is_dump text) rest) text (length text - length rest) e
    → ((n : ℕ) × (e ≡ BadHex n) × IsWrongHex text n) ⊎ (e ≡ OutOfMemory)
text_refused_last text bytes rest e before none fails = text_fails text e
    (up_to-refused_last (IsLine (is_dump text)) (IsWrongLine (is_dump text)) (λ b. b == 10) text bytes rest text 0 e before none
    (subst (λ (k : ℕ). FailsAt (IsWrongLine (is_dump text) rest) text k e) (omega arith) fails))

-- If reading the words of a line's column fails, the line is wrong there, or memory ran out.
pub line_refused : {T : Type 0} (dump : Bool) (line text column : List ℕ) (place start : ℕ) (r : Result T InputError) → start ≡ start_of line → column ≡ column_of dump line
    → IfErr r (FailsAt (IsWrongAt IsWord IsWrongWord (words_of column)) text (place + start)) → IfErr r (FailsAt (IsWrongLine dump line) text place)
line_refused dump line text column place start (Ok bytes) is cut h = tt
line_refused dump line text column place start (Err e) is cut (inl (m, fails, wrong)) = inl (
  start + m,
  subst (λ (k : ℕ). e ≡ BadHex (characters (take k text) + 1)) (omega arith) fails,
  (m, ap (λ (k : ℕ). k + m) is, subst (λ (c : List ℕ). IsWrongAt IsWord IsWrongWord (words_of c) m) cut wrong),
)
line_refused dump line text column place start (Err e) is cut (inr memory) = inr memory

-- ---- the column of a line of xxd

-- After the 9 bytes of the offset (eight digits and a colon), `trim_ascii_start` leaves what `unblank` leaves.
pub behind_offset : (line trimmed : List ℕ) → IsTrimAsciiStart (take (length line - 9) (drop 9 line)) trimmed → trimmed ≡ unblank (drop 9 line)
behind_offset line trimmed trim = trim_is (take (length line - 9) (drop 9 line)) trimmed trim ∙ ap unblank (rest_after 9 line)

-- In a line of `xxd`, the text after the 9 bytes of the offset and the blanks begins at index `start_of line`.
pub xxd-start : (line trimmed : List ℕ) → is_of_xxd line ≡ true → trimmed ≡ unblank (drop 9 line) → length line - length trimmed ≡ start_of line
unfolding start_of
xxd-start line trimmed is same = rw (same, is) refl

-- In a line of `xxd`, the column is that text up to its first two blanks.
pub xxd-column : (dump : Bool) (line trimmed : List ℕ) → is_of_xxd line ≡ true → trimmed ≡ unblank (drop 9 line) → up_to (codes "  ") trimmed ≡ column_of dump line
unfolding column_of
xxd-column dump line trimmed is same = rw (same, is) refl

-- ---- the text before a mark

-- If the mark doesn't begin at the first byte, that byte belongs to the text before the mark.
up_to-cons : (mark : List ℕ) (x : ℕ) (rest : List ℕ) → starts_with nat_eq (x ∷ rest) mark ≡ false → up_to mark (x ∷ rest) ≡ x ∷ up_to mark rest
unfolding up_to
up_to-cons mark x rest other = rw other refl

-- If a text begins with the mark, the text before the mark is empty.
up_to-here : (mark : List ℕ) (x : ℕ) (rest : List ℕ) → starts_with nat_eq (x ∷ rest) mark ≡ true → up_to mark (x ∷ rest) ≡ []
unfolding up_to
up_to-here mark x rest here = rw here refl

-- If the mark doesn't begin at index i, the byte there may move to the bytes that are passed: the text up to the mark stays the same.
pub up_to-none : (mark text : List ℕ) (i : ℕ) → i < length text → starts_with nat_eq (take (length text - i) (drop i text)) mark ≡ false
    → take i text ++ up_to mark (drop i text) ≡ take (i + 1) text ++ up_to mark (drop (i + 1) text)
up_to-none mark text i low other =
    let cut = drop-cons text i 0 low in
    let opened = subst (λ (t : List ℕ). starts_with nat_eq t mark ≡ false) (rest_after i text ∙ cut) other in
    rw add-one (ap (λ (t : List ℕ). take i text ++ up_to mark t) cut
    ∙ ap (λ (t : List ℕ). take i text ++ t) (up_to-cons mark (get_or text i 0) (drop (suc i) text) opened)
    ∙ sym (append_assoc (take i text) (get_or text i 0 ∷ []) (up_to mark (drop (suc i) text)))
    ∙ ap (λ (t : List ℕ). t ++ up_to mark (drop (suc i) text)) (sym (take-suc text i 0 low)))

-- If the mark begins at index i, the i bytes before it, and what is before the mark from there on, are these i bytes.
pub up_to-found : (mark text : List ℕ) (i : ℕ) → i < length text → starts_with nat_eq (take (length text - i) (drop i text)) mark ≡ true
    → take i text ++ up_to mark (drop i text) ≡ take i text
up_to-found mark text i low here =
    let cut = drop-cons text i 0 low in
    let opened = subst (λ (t : List ℕ). starts_with nat_eq t mark ≡ true) (rest_after i text ∙ cut) here in
    ap (λ (t : List ℕ). take i text ++ up_to mark t) cut
    ∙ ap (λ (t : List ℕ). take i text ++ t) (up_to-here mark (get_or text i 0) (drop (suc i) text) opened)
    ∙ append-nil (take i text)

-- If index i is the end of the text, the i bytes before it, and what is before the mark from there on, are the whole text.
pub up_to-all : (mark text : List ℕ) (i : ℕ) → length text ≤ i → take i text ++ up_to mark (drop i text) ≡ text
unfolding up_to
up_to-all mark text i far =
    ap (λ (t : List ℕ). take i text ++ up_to mark t) (nil_from_length (drop i text) (omega (arith, length-drop i text)))
    ∙ append-nil (take i text) ∙ take_all i text far

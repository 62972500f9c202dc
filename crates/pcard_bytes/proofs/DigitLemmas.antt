-- Decoding hexadecimal digits two by two, as the loop of `decode` does, gives what decoding all at once gives. An error names the
-- index of its digit, so a pair is compared at index 0 and at its own index.
use Rattle.std.proofs.Common.{◌≡◌, ℕ, ◌+◌, ◌*◌, ◌%◌, ◌≤◌, arith, inl, inr, List, [], ◌∷◌, ◌++◌, Option, Some, None, length, take, drop, slice_index, refl, sym, ap, ◌∙◌}
use Rattle.std.proofs.lemmas.List.{append-nil}
use Rattle.std.specs.Prelude.{Result, Ok, Err, IsErr}
use Rattle.std.specs.Result.{result_unwrap_or}
use Rattle.std.proofs.lemmas.Bool.{cases_eq}
use Rattle.hex.specs.Hex.{decode_of, decode_pairs, decode_sized, digit_or_error, hex_digit_value, pair_value, ◌>>=◌}
use Rattle.hex.specs.declared.error.FromHexError.{FromHexError}
use Rattle.hex.specs.declared.error.FromHexError.TheVariants.{InvalidHexCharacter}
use Rattle.hex.proofs.HexLemmas.{decode_of-even, decode_of-odd}
use Rattle.hex.proofs.Pairs.{cons_byte, decode_pairs-err_pair, decode_pairs-ok_pair, decode_sized-pairs, prepend, prepend-cons_byte}

-- The byte of two digits, if `o` and `p` are their values. The first digit is at index i, which an error names.
abbrev pair_from : ℕ → ℕ → ℕ → Option ℕ → Option ℕ → Result ℕ FromHexError
pair_from high low i o p = digit_or_error high i o >>= (λ x. digit_or_error low (i + 1) p >>= (λ y. Ok (x * 16 + y)))

-- If two digits make a byte at index i, they make it at index k.
pair_anywhere : (high low i k : ℕ) (o p : Option ℕ) (b : ℕ) → pair_from high low i o p ≡ Ok b → pair_from high low k o p ≡ Ok b
pair_anywhere high low i k (Some x) (Some y) b h = h
pair_anywhere high low i k (Some x) None b h = cc h
pair_anywhere high low i k None p b h = cc h

-- If two digits make no byte at index i, they make none at index k.
pair_nowhere : (high low i k : ℕ) (o p : Option ℕ) (e : FromHexError) → pair_from high low i o p ≡ Err e
    → (f : FromHexError) × (pair_from high low k o p ≡ Err f)
pair_nowhere high low i k (Some x) (Some y) e h = cc h
pair_nowhere high low i k (Some x) None e h = (InvalidHexCharacter low (k + 1), refl)
pair_nowhere high low i k None p e h = (InvalidHexCharacter high k, refl)

-- If two digits decode to a list of bytes, their value is the first byte of it.
one_byte : (high low : ℕ) (xs : List ℕ) (r : Result ℕ FromHexError) → pair_value high low 0 ≡ r
    → decode_pairs 0 (high ∷ low ∷ []) ≡ Ok xs → pair_value high low 0 ≡ Ok (slice_index xs 0)
unfolding decode_pairs
one_byte high low xs (Ok b) is ok =
    let one : Ok (b ∷ []) ≡ Ok xs = sym (decode_pairs-ok_pair 0 high low b [] is) ∙ ok in
    is ∙ ap (λ (r : Result (List ℕ) FromHexError). Ok (slice_index (result_unwrap_or r []) 0)) one
one_byte high low xs (Err e) is ok = cc (sym ok ∙ decode_pairs-err_pair 0 high low e [] is)

-- If two digits don't decode, they have no value.
no_byte : (high low : ℕ) (e : FromHexError) (r : Result ℕ FromHexError) → pair_value high low 0 ≡ r
    → decode_pairs 0 (high ∷ low ∷ []) ≡ Err e → (f : FromHexError) × (pair_value high low 0 ≡ Err f)
unfolding decode_pairs
no_byte high low e (Ok b) is bad = cc (sym bad ∙ decode_pairs-ok_pair 0 high low b [] is)
no_byte high low e (Err f) is bad = (f, is)

-- If the next two digits decode alone, the remaining digits decode to their byte and then to what the digits after them decode to.
byte_first : (rest xs : List ℕ) (k : ℕ) → 2 ≤ length rest → decode_sized (take 2 rest) 1 ≡ Ok xs
    → decode_pairs k rest ≡ cons_byte (slice_index xs 0) (decode_pairs (k + 2) (drop 2 rest))
byte_first [] xs k two ok = absurd (omega arith)
byte_first (high ∷ []) xs k two ok = absurd (omega arith)
byte_first (high ∷ low ∷ after) xs k two ok =
    let pairs = sym (decode_sized-pairs (high ∷ low ∷ []) 1 refl refl) ∙ ok in
    let here = one_byte high low xs (pair_value high low 0) refl pairs in
    decode_pairs-ok_pair k high low (slice_index xs 0) after
    (pair_anywhere high low 0 k (hex_digit_value high) (hex_digit_value low) (slice_index xs 0) here)

-- If the next two digits don't decode alone, the remaining digits don't.
no_byte_first : (rest : List ℕ) (e : FromHexError) (k : ℕ) → 2 ≤ length rest → decode_sized (take 2 rest) 1 ≡ Err e
    → (f : FromHexError) × (decode_pairs k rest ≡ Err f)
no_byte_first [] e k two bad = absurd (omega arith)
no_byte_first (high ∷ []) e k two bad = absurd (omega arith)
no_byte_first (high ∷ low ∷ after) e k two bad =
    let pairs = sym (decode_sized-pairs (high ∷ low ∷ []) 1 refl refl) ∙ bad in
    let here = no_byte high low e (pair_value high low 0) refl pairs in
    let there = pair_nowhere high low 0 k (hex_digit_value high) (hex_digit_value low) here.0 here.1 in
    (there.0, decode_pairs-err_pair k high low there.0 after there.1)

-- Prepending no bytes changes nothing.
prepend-nil : (r : Result (List ℕ) FromHexError) → r ≡ prepend [] r
prepend-nil (Ok xs) = refl
prepend-nil (Err e) = refl

-- Without its first two digits, a text has an odd number of digits exactly if it had one before.
parity-drop : (rest : List ℕ) → 2 ≤ length rest → length rest % 2 ≡ length (drop 2 rest) % 2
parity-drop [] two = absurd (omega arith)
parity-drop (high ∷ []) two = absurd (omega arith)
parity-drop (high ∷ low ∷ after) two = omega arith

-- The text decodes to the bytes so far, and then to what the remaining digits decode to. Both numbers of digits are even, or both odd.
pub record IsBefore (text bytes rest : List ℕ) : Type 0 where
  pub place : ℕ
  pub decoded : decode_pairs 0 text ≡ prepend bytes (decode_pairs place rest)
  pub parity : length text % 2 ≡ length rest % 2

-- `IsBefore` holds before the first byte is read.
pub before-start : (text : List ℕ) → IsBefore text [] text
before-start text = record { place = 0; decoded = prepend-nil (decode_pairs 0 text); parity = refl }

-- If the next two digits decode, `IsBefore` holds with their byte added and without them.
pub before-step : (text bytes rest xs : List ℕ) → IsBefore text bytes rest → 2 ≤ length rest
    → decode_sized (take 2 rest) 1 ≡ Ok xs → IsBefore text (bytes ++ slice_index xs 0 ∷ []) (drop 2 rest)
before-step text bytes rest xs before two ok = record {
  place = before.place + 2;
  decoded = before.decoded ∙ ap (prepend bytes) (byte_first rest xs before.place two ok) ∙ prepend-cons_byte bytes (slice_index xs 0) _;
  parity = before.parity ∙ parity-drop rest two;
}

-- If the next two digits don't decode, the text doesn't.
pub before-refused : (text bytes rest : List ℕ) (e : FromHexError) → IsBefore text bytes rest → 2 ≤ length rest
    → decode_sized (take 2 rest) 1 ≡ Err e → IsErr (decode_of text)
before-refused text bytes rest e before two bad =
    let first = no_byte_first rest e before.place two bad in
    elim (cases_eq (length text % 2) 1) [
      | inl odd ↦ rw (decode_of-odd text odd) refl
      | inr even ↦
          rw (decode_of-even text (omega arith), before.decoded, first.1) refl
    ]

-- If no digit is left, the text decodes to the bytes so far.
pub before-end : (text bytes rest : List ℕ) → IsBefore text bytes rest → rest ≡ [] → decode_of text ≡ Ok bytes
unfolding decode_pairs
before-end text bytes rest before none =
    let parity = before.parity in
    let even : length text % 2 ≡ 0 = rw none at parity in
    decode_of-even text even ∙ before.decoded ∙ ap (λ (r : List ℕ). prepend bytes (decode_pairs before.place r)) none
    ∙ ap Ok (append-nil bytes)

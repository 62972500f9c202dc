-- The greatest sizes of values that are a single node: bytes, booleans, numbers, characters, strings of a fixed capacity and spans of time.
-- The rules are those of wire format 1.0, "the serde data model" and "maximum encoded length".
use Rattle.std.proofs.Common.{◌≡◌, ℕ, zero, suc, ◌+◌, ◌-◌, ◌^◌, ◌<◌, ◌≤◌, inl, inr, Some, true, List, [], ◌∷◌, ◌++◌, length, refl, ap, ◌∙◌, arith, length-append, encode_utf8, pos}
use Rattle.std.specs.Prelude.{slice_index}
use Rattle.std.proofs.lemmas.Str.{len_utf8_bounds, length-encode, IsUtf8-from_ascii}
use Rattle.std.proofs.Math.Pow.{pow_pos}
use lib.Utf8.{encode}
use Rattle.postcard_wire.specs.Number.{digits, max_digits}
use Rattle.postcard_wire.specs.Tree.{Tree, Byte, Boolean, Num, Int, Char, Text, Group, NoTrees, Then, IsWidth}
use Rattle.postcard_wire.specs.Reading.{IsByte, IsBoolean, IsNum, IsInt, IsChar}
use Rattle.postcard_wire.proofs.Ranged.{zig_below, zig_onto}
use Rattle.postcard_wire.proofs.Shortest.{SpellsNum-digits, length-digits}
use Rattle.postcard_wire.proofs.Writing.{reached, few_32, few_64}
use Rattle.postcard_shape.specs.Leaves.{IsShortText, Without, byte_same}
use Rattle.postcard_shape.specs.Spans.{IsSpan}
use Rattle.postcard_max.specs.Sizes.{sum_of, varint_len}
use Rattle.postcard_max.specs.SizeLimit.{exactly, short_text_limit}
use Rattle.postcard_max.specs.Limits.{AreBounded, IsReached, IsLimit, tree_len, limited_bounded, limited_reached}
use Rattle.postcard_max.specs.Counts.{longer_counts, count_len, one_count}
use Rattle.postcard_shape.specs.Shape.{never}
use Rattle.postcard_max.specs.Willing.{never_any}

-- When the limit `exactly n` holds of a node. It takes at most n bytes, some encoding takes n bytes, and its values never refuse to be
-- written.
leaf_lawful : {V : Type 0} {n : ℕ} {reads : Tree → Type 0} → AreBounded (Some n) reads → IsReached (Some n) reads → IsLimit (exactly n) reads (λ (v : V). never)
leaf_lawful h k = record { bounded = h; is_reached = λ _. k; never_refuses = λ _. never_any }

-- A byte takes one byte.
pub byte_lawful : {V : Type 0} → IsLimit (exactly 1) IsByte (λ (v : V). never)
byte_lawful = leaf_lawful (λ t f. rw f.1 (omega arith)) (Byte 0, (0, refl, omega arith), refl)

-- A boolean takes one byte.
pub boolean_lawful : {V : Type 0} → IsLimit (exactly 1) IsBoolean (λ (v : V). never)
boolean_lawful = leaf_lawful (λ t f. rw f.1 (omega arith)) (Boolean true, (true, refl), refl)

-- An unsigned number takes at most the bytes of a varint of its width. The greatest number takes that many.
num_bounded : (w : ℕ) → IsWidth w → AreBounded (Some (max_digits w)) (IsNum w)
num_bounded w wide t f = rw f.1 (SpellsNum-digits w f.0 wide f.2).count

num_reached : (w : ℕ) → IsWidth w → IsReached (Some (max_digits w)) (IsNum w)
num_reached w wide =
    let p : 1 ≤ 2 ^ w = pow_pos w in
    (Num w (2 ^ w - 1), (2 ^ w - 1, refl, omega arith), reached w wide)

-- The limit of an unsigned number holds.
pub num_lawful : {V : Type 0} (w : ℕ) → IsWidth w → IsLimit (exactly (max_digits w)) (IsNum w) (λ (v : V). never)
num_lawful w wide = leaf_lawful (num_bounded w wide) (num_reached w wide)

-- A signed number takes at most the bytes of a varint of its width. Some number takes that many, by its zigzag encoding.
int_bounded : (w : ℕ) → IsWidth w → AreBounded (Some (max_digits w)) (IsInt w)
int_bounded w wide t (z, e, r) = rw e (num_bounded w wide (Num w _) (_, refl, zig_below w z wide r))

int_reached : (w : ℕ) → IsWidth w → IsReached (Some (max_digits w)) (IsInt w)
int_reached w wide =
    let p : 1 ≤ 2 ^ w = pow_pos w in
    let (z, r, e) = zig_onto w (2 ^ w - 1) wide (omega arith) in
    (Int w z, (z, refl, r), ap (λ n. length (digits n)) e ∙ reached w wide)

-- The limit of a signed number holds.
pub int_lawful : {V : Type 0} (w : ℕ) → IsWidth w → IsLimit (exactly (max_digits w)) (IsInt w) (λ (v : V). never)
int_lawful w wide = leaf_lawful (int_bounded w wide) (int_reached w wide)

-- A set without one tree has the limit of the whole set, if that tree takes fewer bytes.
without_lawful : {V : Type 0} (one : Tree) (n : ℕ) (reads : Tree → Type 0) → tree_len one < n → AreBounded (Some n) reads → IsReached (Some n) reads → IsLimit (exactly n) (Without one reads) (λ (v : V). never)
without_lawful one n reads less h (t, r, e) = leaf_lawful (λ u f. h u f.0) (t, (r, λ same. omega (arith, less, e, ap tree_len same)), e)

-- The numbers of a width without 0 take at most the bytes of a varint of the width. Some take that many, since 0 takes only one byte.
one_byte : (w : ℕ) → IsWidth w → 1 < max_digits w
one_byte w (inl e) = rw e (omega arith)
one_byte w (inr (inl e)) = rw e (omega arith)
one_byte w (inr (inr (inl e))) = rw e (omega arith)
one_byte w (inr (inr (inr e))) = rw e (omega arith)

-- The limit of an unsigned number other than 0 is that of its width.
pub nonzero_num_lawful : {V : Type 0} (w : ℕ) → IsWidth w → IsLimit (exactly (max_digits w)) (Without (Num w 0) (IsNum w)) (λ (v : V). never)
nonzero_num_lawful w wide = without_lawful (Num w 0) (max_digits w) (IsNum w) (omega (arith, one_byte w wide, one_count 0 (omega arith))) (num_bounded w wide) (num_reached w wide)

-- The limit of a signed number other than 0 is that of its width.
pub nonzero_int_lawful : {V : Type 0} (w : ℕ) → IsWidth w → IsLimit (exactly (max_digits w)) (Without (Int w (pos 0)) (IsInt w)) (λ (v : V). never)
nonzero_int_lawful w wide = without_lawful (Int w (pos 0)) (max_digits w) (IsInt w) (omega (arith, one_byte w wide, one_count 0 (omega arith))) (int_bounded w wide) (int_reached w wide)

-- A byte other than 0 takes one byte.
pub nonzero_byte_lawful : {V : Type 0} → IsLimit (exactly 1) (Without (Byte 0) IsByte) (λ (v : V). never)
nonzero_byte_lawful = leaf_lawful (λ t f. rw f.0.1 (omega arith)) (Byte 1, ((1, refl, omega arith), λ e. omega (arith, byte_same 1 0 e)), refl)

-- A character takes at most four bytes of UTF-8, and one byte for their count.
char_bounded : AreBounded (Some 5) IsChar
char_bounded t f =
    let c = f.0 in
    rw f.1 (omega (arith, length-encode c, len_utf8_bounds c, length-digits 0 (length (encode_utf8 c)) (omega (arith, length-encode c, len_utf8_bounds c)), length-append (digits (length (encode_utf8 c))) (encode_utf8 c)))

char_reached : IsReached (Some 5) IsChar
unfolding digits encode
char_reached = (Char 65536, (65536, refl, refl), refl)

-- The limit of a character holds.
pub char_lawful : {V : Type 0} → IsLimit (exactly 5) IsChar (λ (v : V). never)
char_lawful = leaf_lawful char_bounded char_reached

-- A span of time takes at most 10 bytes for its seconds and 5 for its nanoseconds.
span_bounded : AreBounded (Some 15) IsSpan
span_bounded t f = let s = f.0 in let n = f.1 in
    rw f.2 (omega (arith, few_64 s f.3, few_32 n f.4, length-append (digits s) (digits n ++ []), length-append (digits n) []))

span_reached : IsReached (Some 15) IsSpan
unfolding digits
span_reached = (Group (Then (Num 64 18446744073709551615) (Then (Num 32 999999999) NoTrees)), (18446744073709551615, 999999999, refl, omega arith, omega arith, omega arith), refl)

-- The limit of a span of time holds.
pub span_lawful : {V : Type 0} → IsLimit (exactly 15) IsSpan (λ (v : V). never)
span_lawful = leaf_lawful span_bounded span_reached

-- A string of at most cap bytes takes at most these bytes and those of the count cap.
longest_text : (cap : ℕ) → (t : Tree) → IsShortText cap t → tree_len t ≤ cap + varint_len cap
longest_text cap t f = rw f.1 (omega (arith, longer_counts (length f.0) cap f.2, length-append (digits (length f.0)) f.0))

short_bounded : (cap : ℕ) → AreBounded (sum_of (Some cap) (Some (varint_len cap))) (IsShortText cap)
short_bounded cap = limited_bounded tree_len (cap + varint_len cap) (IsShortText cap) (longest_text cap)

letters : ℕ → List ℕ
letters zero = []
letters (suc n) = 97 ∷ letters n

letters_length : (n : ℕ) → length (letters n) ≡ n
unfolding letters
letters_length zero = refl
letters_length (suc n) = ap (λ k. suc k) (letters_length n)

letters_low : (n i : ℕ) → slice_index (letters n) i < 128
unfolding letters
letters_low zero i = omega arith
letters_low (suc n) zero = omega arith
letters_low (suc n) (suc i) = letters_low n i

short_reached : (cap : ℕ) → cap < 2 ^ 64 → IsReached (sum_of (Some cap) (Some (varint_len cap))) (IsShortText cap)
short_reached cap fits =
    let l = letters_length cap in
    limited_reached tree_len (cap + varint_len cap) (IsShortText cap) (
      Text (letters cap),
      (letters cap, refl, omega arith, IsUtf8-from_ascii (letters cap) (letters_low cap), omega (arith, l, fits)),
      omega (arith, ap (λ n. length (digits n)) l, count_len cap, length-append (digits (length (letters cap))) (letters cap)),
    )

-- The limit of a string of at most cap bytes holds.
pub short_text_lawful : {V : Type 0} (cap : ℕ) → IsLimit (short_text_limit cap) (IsShortText cap) (λ (v : V). never)
short_text_lawful cap = record { bounded = short_bounded cap; is_reached = short_reached cap; never_refuses = λ _. never_any }

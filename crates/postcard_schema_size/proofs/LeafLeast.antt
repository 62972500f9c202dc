-- The least sizes of types without parts, of options, lists and arrays. Each is shown by a bound of all trees, and a tree that reaches it.
use Rattle.std.proofs.Common.{◌≡◌, inl, inr, ℕ, zero, suc, ◌+◌, ◌*◌, ◌<◌, ◌≤◌, ◌^◌, [], length, refl, sym, ap, subst, ◌∙◌, arith, length-append, encode_utf8, true}
use Rattle.std.specs.Prelude.{Option, Some, None}
use Rattle.std.proofs.lemmas.Bool.{cases_lt}
use Rattle.std.proofs.lemmas.Str.{len_utf8_bounds, length-encode, IsUtf8-from_ascii}
use Rattle.std.proofs.Math.Pow.{pow_pos}
use lib.Utf8.{encode}
use Rattle.postcard_wire.specs.Number.{digits, zigzag}
use Rattle.postcard_wire.specs.Tree.{Tree, Trees, Byte, Boolean, Num, Int, Char, Text, Absent, Group, Seq, NoTrees, Then, IsWidth, count}
use Rattle.postcard_wire.specs.Spelling.{canonical, canonical_all}
use Rattle.postcard_wire.specs.Reading.{IsByte, IsBoolean, IsNum, IsInt, IsChar, IsText, IsOption, IsSeq, IsArray, Each}
use Rattle.postcard_wire.proofs.Ranged.{zig_onto}
use Rattle.postcard_schema.specs.Leaves.{size_of}
use Rattle.postcard_schema.specs.Meaning.{leaf_reads}
use Rattle.postcard_schema.specs.declared.leaf.Float.TheVariants.{F32, F64}
use Rattle.postcard_schema.specs.declared.leaf.Leaf.{Leaf}
use Rattle.postcard_schema.specs.declared.leaf.Leaf.TheVariants as leaves
use Rattle.postcard_max.specs.Sizes.{limited}
use Rattle.postcard_max.specs.Limits.{tree_len, trees_len}
use Rattle.postcard_max.specs.Counts.{count_len, one_count, some_count}
use Rattle.postcard_schema_size.specs.Sizes.{repeated}
use Rattle.postcard_schema_size.specs.Least.{IsLeast, IsLeastSize, leaf_least}
use Rattle.postcard_schema_size.proofs.Sums.{small, large}
use Rattle.postcard_schema_size.proofs.Integers.{each_integer, size_few}

-- If n is the least measure in a set, `limited n` is the set's least size. That is none if n takes more than 64 bits.
pub limited_least : {X : Type 0} (measure : X → ℕ) (n : ℕ) (has : X → Type 0) → ((x : X) → has x → n ≤ measure x) → ((x : X) × has x × (measure x ≡ n))
    → IsLeast measure (limited n) has
limited_least measure n has h k = elim (cases_lt n (2 ^ 64)) [
  | inl low ↦ subst (λ o. IsLeast measure o has) (sym (small n low)) (record { fits = low; none_shorter = h; reached = k })
  | inr high ↦ subst (λ o. IsLeast measure o has) (sym (large n high)) (λ x r. omega (arith, high, h x r))
]

-- The digits of a number are at least one byte.
some_digits : (n : ℕ) → 1 ≤ length (digits n)
some_digits n = omega (arith, count_len n, some_count n)

-- ---- Types without parts

byte_least : IsLeastSize (Some 1) IsByte
byte_least = record {
  fits = omega arith;
  none_shorter = λ t f. rw f.1 (omega arith);
  reached = (Byte 0, (0, refl, omega arith), refl);
}

boolean_least : IsLeastSize (Some 1) IsBoolean
boolean_least = record {
  fits = omega arith;
  none_shorter = λ t f. rw f.1 (omega arith);
  reached = (Boolean true, (true, refl), refl);
}

num_least : (w : ℕ) → IsWidth w → IsLeastSize (Some 1) (IsNum w)
num_least w wide =
    let p : 1 ≤ 2 ^ w = pow_pos w in
    record {
      fits = omega arith;
      none_shorter = λ t f. rw f.1 (some_digits f.0);
      reached = (Num w 0, (0, refl, omega arith), one_count 0 (omega arith));
    }

int_least : (w : ℕ) → IsWidth w → IsLeastSize (Some 1) (IsInt w)
int_least w wide =
    let p : 1 ≤ 2 ^ w = pow_pos w in
    let (z, r, e) = zig_onto w 0 wide (omega arith) in
    record {
      fits = omega arith;
      none_shorter = λ t f. rw f.1 (some_digits (zigzag f.0));
      reached = (Int w z, (z, refl, r), ap (λ n. length (digits n)) e ∙ one_count 0 (omega arith));
    }

shortest_char : (t : Tree) → IsChar t → 2 ≤ tree_len t
shortest_char t f =
    let c = f.0 in
    rw f.1 (omega (arith, length-encode c, len_utf8_bounds c, some_digits (length (encode_utf8 c)), length-append (digits (length (encode_utf8 c))) (encode_utf8 c)))

short_char : (t : Tree) × IsChar t × (tree_len t ≡ 2)
unfolding digits encode
short_char = (Char 0, (0, refl, refl), refl)

char_least : IsLeastSize (Some 2) IsChar
char_least = record { fits = omega arith; none_shorter = shortest_char; reached = short_char }

text_least : IsLeastSize (Some 1) IsText
text_least = record {
  fits = omega arith;
  none_shorter = λ t f. rw f.1 (omega (arith, some_digits (length f.0), length-append (digits (length f.0)) f.0));
  reached = (Text [], ([], refl, IsUtf8-from_ascii [] (λ i. omega arith), omega arith), omega (arith, one_count 0 (omega arith), length-append (digits 0) []));
}

-- The least size of a list is 1: the byte of its count, which the empty list has alone.
pub list_least : (reads : Tree → Type 0) → IsLeastSize (Some 1) (IsSeq reads)
list_least reads = record {
  fits = omega arith;
  none_shorter = λ t f. rw f.1 (omega (arith, some_digits (count f.0), length-append (digits (count f.0)) (canonical_all f.0)));
  reached = (Seq NoTrees, (NoTrees, refl, omega arith, tt), omega (arith, one_count 0 (omega arith), length-append (digits 0) []));
}

-- The least size of an option is 1: the byte that says whether there is a value, which `None` has alone.
shortest_option : (reads : Tree → Type 0) (t : Tree) → IsOption reads t → 1 ≤ tree_len t
shortest_option reads t (inl e) = rw e (omega arith)
shortest_option reads t (inr f) = rw f.1 (omega arith)

pub option_least : (reads : Tree → Type 0) → IsLeastSize (Some 1) (IsOption reads)
option_least reads = record { fits = omega arith; none_shorter = shortest_option reads; reached = (Absent, inl refl, refl) }

-- ---- Arrays

suc_times : (n m : ℕ) → suc n * m ≡ m + n * m
suc_times n m = omega arith

each_least : (m : ℕ) (reads : Tree → Type 0) → ((t : Tree) → reads t → m ≤ tree_len t) → (ts : Trees) → Each reads ts → count ts * m ≤ trees_len ts
each_least m reads h NoTrees e = omega arith
each_least m reads h (Then t ts) e = omega (arith, suc_times (count ts) m, h t e.0, each_least m reads h ts e.1, length-append (canonical t) (canonical_all ts))

-- If a tree has m bytes, some row of n trees has n * m bytes.
alike : (n m : ℕ) (reads : Tree → Type 0) (t : Tree) → reads t → tree_len t ≡ m → (ts : Trees) × (count ts ≡ n) × Each reads ts × (trees_len ts ≡ n * m)
alike zero m reads t r e = (NoTrees, refl, tt, omega arith)
alike (suc n) m reads t r e =
    let (ts, c, each, l) = alike n m reads t r e in
    (Then t ts, ap (λ k. suc k) c, (r, each), omega (arith, suc_times n m, e, l, length-append (canonical t) (canonical_all ts)))

-- If each element has 2^64 bytes or more, a non-empty array of them has 2^64 or more, too.
never_small : (n : ℕ) (reads : Tree → Type 0) → ((t : Tree) → reads t → 2 ^ 64 ≤ tree_len t) → (ts : Trees) → count ts ≡ suc n → Each reads ts → 2 ^ 64 ≤ trees_len ts
never_small n reads h NoTrees c e = absurd (omega (arith, c))
never_small n reads h (Then t ts) c e = omega (arith, h t e.0, length-append (canonical t) (canonical_all ts))

some_array : (n m : ℕ) (reads : Tree → Type 0) → IsLeastSize (Some m) reads → IsLeastSize (limited (n * m)) (IsArray n reads)
some_array n m reads h =
    let (t, r, e) = h.reached in
    let (ts, c, each, l) = alike n m reads t r e in
    limited_least tree_len (n * m) (IsArray n reads) (λ u f. rw (f.1, ← f.2) (each_least m reads h.none_shorter f.0 f.3)) (Group ts, (ts, refl, c, each), l)

-- The least size of an array is n times that of its elements.
pub array_least : (n : ℕ) (g : Option ℕ) (reads : Tree → Type 0) → IsLeastSize g reads → IsLeastSize (repeated n g) (IsArray n reads)
array_least zero g reads h = record { fits = omega arith; none_shorter = λ t f. omega arith; reached = (Group NoTrees, (NoTrees, refl, refl, tt), refl) }
array_least (suc n) None reads h = λ t f. rw f.1 (never_small n reads h f.0 f.2 f.3)
array_least (suc n) (Some m) reads h = some_array (suc n) m reads h

-- The least size of n bytes is n. A float and a number of a fixed width are such arrays of bytes.
bytes_least : (n : ℕ) → n < 2 ^ 64 → IsLeastSize (Some n) (IsArray n IsByte)
bytes_least n few =
    let is : limited (n * 1) ≡ Some n = ap limited (omega arith) ∙ small n few in
    subst (λ g. IsLeastSize g (IsArray n IsByte)) is (some_array n 1 IsByte byte_least)

-- The least size of a type without parts is `leaf_least`.
pub leaf_is_least : (l : Leaf) → IsLeastSize (Some (leaf_least l)) (leaf_reads l)
leaf_is_least leaves.Bool = boolean_least
leaf_is_least (leaves.Integer i) = each_integer (λ n. IsLeastSize (Some 1)) byte_least num_least int_least i
leaf_is_least (leaves.Float F32) = bytes_least 4 (omega arith)
leaf_is_least (leaves.Float F64) = bytes_least 8 (omega arith)
leaf_is_least leaves.Char = char_least
leaf_is_least leaves.Str = text_least
leaf_is_least leaves.Bytes = list_least IsByte
leaf_is_least (leaves.Fixed order i) = bytes_least (size_of i) (omega (arith, size_few i))

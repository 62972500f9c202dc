-- The JSON of values without parts that was written is read as the tree that it was written of.
use Rattle.std.proofs.Common.{◌≡◌, ℕ, ℤ, pos, negsuc, zero, suc, ◌*◌, ◌%◌, ◌<◌, ◌^◌, neg_ℤ, Bool, true, false, List, [], ◌∷◌, map, length, get_or, Some, if◌then◌else◌, refl, sym, ap, subst, ◌∙◌, arith, mod-eq_of_lt}
use Rattle.std.specs.Prelude.{FitsSigned, slice_index, nat_lt, ◌≢◌, reverse}
use Rattle.std.specs.Char.{encode_utf8, digit_value}
use Rattle.std.specs.Fmt.{decimal, signed_decimal}
use Rattle.std.specs.Int.{w128}
use Rattle.std.specs.Str.Parse.{IsNumeral, digits_value, without_leading_plus, without_leading_sign}
use Rattle.std.proofs.Math.Nat.{pow-suc}
use Rattle.std.proofs.lemmas.List.{length-reverse}
use Rattle.std.specs.Bool.{◌==◌}
use Rattle.std.proofs.lemmas.Bool.{ne_eqb}
use Rattle.std.proofs.lemmas.Fmt.{decimal_is_IsNumeral_wide}
use Rattle.std.proofs.lemmas.Int.{ints}
use Rattle.std.proofs.lemmas.Str.Parse.{without_leading_plus_none}
use Rattle.hex.specs.Hex.{encode_lower}
use Rattle.hex.proofs.HexLemmas.{decode_of-encode_lower}
use Rattle.postcard_wire.specs.Number.{InRange}
use Rattle.postcard_wire.specs.Tree.{Tree, Trees, Byte, Boolean, Num, Int, Text, NoTrees, Then, trees, count}
use Rattle.postcard_wire.specs.Tree as nodes
use Rattle.postcard_wire.specs.Reading.{Each, IsByte}
use Rattle.postcard_shape.specs.Base256.{AreBytes, low_value, reversed_bytes}
use Rattle.postcard_fixint.specs.Fixed.{twos_complement}
use Rattle.postcard_schema.specs.Leaves.{float_size, is_signed, size_of}
use Rattle.postcard_schema.specs.Meaning.{leaf, reads}
use Rattle.postcard_schema.specs.declared.leaf.ByteOrder.{ByteOrder}
use Rattle.postcard_schema.specs.declared.leaf.ByteOrder.TheVariants.{Little, Big}
use Rattle.postcard_schema.specs.declared.leaf.Integer.{Integer}
use Rattle.postcard_schema.specs.declared.leaf.Integer.TheVariants.{U8, U16, U32, U64, U128, I8, I16, I32, I64, I128}
use Rattle.postcard_schema.specs.declared.leaf.Leaf.{Leaf}
use Rattle.postcard_schema.specs.declared.leaf.Leaf.TheVariants as leaves
use Rattle.postcard_value.specs.Numbers.{IsBitsOf, bytes_of, integer_tree, order_of, signed_of}
use Rattle.postcard_value.specs.NumberLemmas.{at_most_128, bits_are_of, fits_128, number_of_bits}
use Rattle.postcard_value_text.specs.Layout as layouts
use Rattle.serde_json.specs.Data.{Data, boolean, number, string, unsigned}
use Rattle.serde_json.specs.Find.{of_integer}
use Rattle.postcard_value_json.specs.Written.{bits_json, byte_json, float_json, is_small, json_of, signed_json, unsigned_json, varint_json}
use Rattle.postcard_value_json_read.specs.Reading.{IsJsonOf, IsUnsigned, IsSigned, IsUnsignedJson, IsSignedJson, IsFloatJson, IsBitsJson}
use Rattle.postcard_value_json_read.proofs.BackFloats.{float_back}
use Rattle.postcard_value_json_read.proofs.Groups.{some_is}

-- ---- numbers

-- Decimal digits begin with neither `+` nor `-`, so stripping a sign changes nothing.
not_sign : (bs : List ℕ) → IsNumeral 10 bs → (get_or bs 0 0 ≢ 43) × (get_or bs 0 0 ≢ 45)
not_sign [] h = absurd (omega (arith, h.0))
not_sign (c ∷ cs) h = (
  λ is. absurd (omega (arith, subst (λ d. digit_value d < 10) is h.1.0)),
  λ is. absurd (omega (arith, subst (λ d. digit_value d < 10) is h.1.0)),
)

-- The decimal digits of a number are read as the number.
plain_digits : (n : ℕ) → n < 10 ^ 64 → IsUnsigned n (decimal n)
plain_digits n low =
    let h = decimal_is_IsNumeral_wide n low in
    let plain : without_leading_plus (decimal n) ≡ decimal n = without_leading_plus_none (decimal n) (not_sign (decimal n) h.0).0 in
    (subst (IsNumeral 10) (sym plain) h.0, sym (ap (digits_value 10) plain ∙ h.1))

-- The JSON that was written of an unsigned number is read as that number.
unsigned_back : (n : ℕ) → n < 10 ^ 64 → IsUnsignedJson n (unsigned_json n)
unsigned_back n low = by (nat_lt n 9007199254740992)
  where
    by : (b : Bool) → IsUnsignedJson n (if b then number (unsigned n) else string (decimal n))
    by true = refl
    by false = plain_digits n low

-- The digits of a signed number denote it.
signed_digits : (z : ℤ) → FitsSigned w128 z → IsSigned z (signed_decimal z)
signed_digits (pos n) fits =
    let low : n < 10 ^ 64 = omega (arith, ints, fits.sfits) in
    let h = decimal_is_IsNumeral_wide n low in
    let first = not_sign (decimal n) h.0 in
    let plus : without_leading_plus (decimal n) ≡ decimal n = without_leading_plus_none (decimal n) first.0 in
    let minus : (get_or (decimal n) 0 0 == 45) ≡ false = ne_eqb (get_or (decimal n) 0 0) 45 first.1 in
    let plain : without_leading_sign (decimal n) ≡ decimal n = rw minus plus in
    (subst (IsNumeral 10) (sym plain) h.0, rw minus (ap pos (sym (ap (digits_value 10) plus ∙ h.1))))
signed_digits (negsuc n) fits =
    let low : suc n < 10 ^ 64 = omega (arith, ints, fits.sfits) in
    let h = decimal_is_IsNumeral_wide (suc n) low in
    (h.0, ap (λ m. neg_ℤ (pos m)) (sym h.1))

-- The JSON of a signed number is read back.
signed_back : (z : ℤ) → FitsSigned w128 z → IsSignedJson z (signed_json z)
signed_back z fits = by z (is_small z) fits
  where
    by : (z : ℤ) (b : Bool) → FitsSigned w128 z → IsSignedJson z (if b then number (of_integer z) else string (signed_decimal z))
    by (pos n) true fits = refl
    by (negsuc n) true fits = refl
    by z false fits = signed_digits z fits

-- ---- bytes

same_byte : (a b : ℕ) → Byte a ≡ Byte b → a ≡ b
same_byte a b e = cc e

-- A list of byte trees is that of its bytes.
bytes_whole : (ts : Trees) → Each IsByte ts → ts ≡ trees (map Byte (bytes_of ts))
bytes_whole NoTrees each = refl
bytes_whole (Then (Byte b) ts) each = ap (λ us. Then (Byte b) us) (bytes_whole ts each.1)
bytes_whole (Then t ts) ((b, is, low), each) = absurd (cc is)

bytes_are : (ts : Trees) → Each IsByte ts → AreBytes (bytes_of ts)
bytes_are NoTrees each = tt
bytes_are (Then (Byte b) ts) ((c, is, low), each) = (subst (λ n. n < 256) (sym (same_byte b c is)) low, bytes_are ts each)
bytes_are (Then t ts) ((b, is, low), each) = absurd (cc is)

-- A list of byte trees has as many bytes as trees.
bytes_count : (ts : Trees) → Each IsByte ts → length (bytes_of ts) ≡ count ts
bytes_count NoTrees each = refl
bytes_count (Then (Byte b) ts) each = ap suc (bytes_count ts each.1)
bytes_count (Then t ts) ((b, is, low), each) = absurd (cc is)

each_below : (bs : List ℕ) → AreBytes bs → (i : ℕ) → slice_index bs i < 256
each_below [] h i = omega arith
each_below (b ∷ bs) h zero = h.0
each_below (b ∷ bs) h (suc i) = each_below bs h.1 i

value_below : (bs : List ℕ) → AreBytes bs → low_value bs < 256 ^ length bs
value_below [] h = omega arith
value_below (b ∷ bs) h = let rest = value_below bs h.1 in let p = pow-suc 256 (length bs) in omega (arith, h.0, rest, p)

value_under : (order : ByteOrder) (bs : List ℕ) → AreBytes bs → (order_of order).value bs < 256 ^ length bs
value_under Little bs are = value_below bs are
value_under Big bs are = subst (λ n. low_value (reverse bs) < 256 ^ n) (length-reverse bs) (value_below (reverse bs) (reversed_bytes bs are))

tree_below : (order : ByteOrder) (k : ℕ) (ts : Trees) → count ts ≡ k → Each IsByte ts → (order_of order).value (bytes_of ts) < 256 ^ k
tree_below order k ts long each = subst (λ n. (order_of order).value (bytes_of ts) < 256 ^ n) (bytes_count ts each ∙ long) (value_under order (bytes_of ts) (bytes_are ts each))

-- The bytes of a number, or a float, are those of its bits.
fixed_whole : (order : ByteOrder) (k : ℕ) (ts : Trees) → count ts ≡ k → Each IsByte ts → ts ≡ trees (map Byte ((order_of order).spell k ((order_of order).value (bytes_of ts))))
fixed_whole order k ts long each =
    let o = order_of order in
    let bs = bytes_of ts in
    let n = o.value bs in
    let same = o.one bs (o.spell k n) (bytes_count ts each ∙ long ∙ sym (o.counts k n)) (bytes_are ts each) (o.bytes k n) (sym (o.worth k n (tree_below order k ts long each))) in
    bytes_whole ts each ∙ ap (λ xs. trees (map Byte xs)) same

-- ---- leaves

pub same_group : (ts us : Trees) → nodes.Group ts ≡ nodes.Group us → ts ≡ us
same_group ts us e = cc e

pub same_seq : (ts us : Trees) → nodes.Seq ts ≡ nodes.Seq us → ts ≡ us
same_seq ts us e = cc e

bits_from : (signed : Bool) (i : Integer) (n : ℕ) (d : Data) → n < 256 ^ size_of i → Some (bits_json signed (size_of i) n) ≡ Some d → IsBitsJson signed i n d
bits_from true i n d below e =
    let z = signed_of (size_of i) n in
    let is = bits_are_of i n below in
    (z, is, subst (IsSignedJson z) (some_is (signed_json z) d e) (signed_back z (fits_128 i z n is)))
bits_from false i n d below e =
    let few = at_most_128 i in
    (below, subst (IsUnsignedJson n) (some_is (unsigned_json n) d e) (unsigned_back n (omega (arith, below, few))))

-- What is written of a number is read as its tree, by the bits of the number.
abbrev IsBack : Integer → Tree → Data → Type 0
IsBack i t d = (n : ℕ) × (t ≡ integer_tree i n) × IsBitsJson (is_signed i) i n d

byte_from : (i : Integer) (m : ℕ) (t : Tree) (d : Data) → ((n : ℕ) → integer_tree i n ≡ Byte (n % 256)) → 256 ≡ 256 ^ size_of i → t ≡ Byte m → m < 256
    → Some (bits_json (is_signed i) (size_of i) m) ≡ Some d → IsBack i t d
byte_from i m t d form size is low e = (m, is ∙ ap Byte (sym (mod-eq_of_lt low)) ∙ sym (form m), bits_from (is_signed i) i m d (subst (λ k. m < k) size low) e)

num_from : (i : Integer) (w m : ℕ) (t : Tree) (d : Data) → is_signed i ≡ false → ((n : ℕ) → integer_tree i n ≡ Num w (n % 2 ^ w)) → 2 ^ w ≡ 256 ^ size_of i → t ≡ Num w m → m < 2 ^ w
    → Some (unsigned_json m) ≡ Some d → IsBack i t d
num_from i w m t d plain form size is low e =
    (m, is ∙ ap (Num w) (sym (mod-eq_of_lt low)) ∙ sym (form m), subst (λ b. IsBitsJson b i m d) (sym plain) (bits_from false i m d (subst (λ k. m < k) size low) e))

int_from : (i : Integer) (w : ℕ) (z : ℤ) (t : Tree) (d : Data) → is_signed i ≡ true → ((n : ℕ) → integer_tree i n ≡ Int w (signed_of (size_of i) (n % 256 ^ size_of i))) → w ≡ 8 * size_of i → t ≡ Int w z → InRange w z
    → Some (signed_json z) ≡ Some d → IsBack i t d
int_from i w z t d signed form width is range e =
    let n = twos_complement (size_of i) z in
    let bits : IsBitsOf i z n = (subst (λ k. InRange k z) width range, refl) in
    let json = subst (IsSignedJson z) (some_is (signed_json z) d e) (signed_back z (fits_128 i z n bits)) in
    (n, is ∙ ap (Int w) (sym (number_of_bits i z n bits)) ∙ sym (form n), subst (λ b. IsBitsJson b i n d) (sym signed) (z, bits, json))

-- What is written of each tree of a type without parts is read as that tree.
pub leaf_back : (l : Leaf) (t : Tree) (d : Data) → reads (leaf l) t → json_of (layouts.leaf l) t ≡ Some d → IsJsonOf (layouts.leaf l) t d
leaf_back leaves.Bool (Boolean x) d r e = sym (some_is (boolean x) d e)
leaf_back (leaves.Integer U8) t d (m, is, low) e = byte_from U8 m t d (λ n. refl) refl is low (subst (λ z. byte_json false z ≡ Some d) is e)
leaf_back (leaves.Integer I8) t d (m, is, low) e = byte_from I8 m t d (λ n. refl) refl is low (subst (λ z. byte_json true z ≡ Some d) is e)
leaf_back (leaves.Integer U16) t d (m, is, low) e = num_from U16 16 m t d refl (λ n. refl) refl is low (subst (λ z. varint_json false 16 z ≡ Some d) is e)
leaf_back (leaves.Integer U32) t d (m, is, low) e = num_from U32 32 m t d refl (λ n. refl) refl is low (subst (λ z. varint_json false 32 z ≡ Some d) is e)
leaf_back (leaves.Integer U64) t d (m, is, low) e = num_from U64 64 m t d refl (λ n. refl) refl is low (subst (λ z. varint_json false 64 z ≡ Some d) is e)
leaf_back (leaves.Integer U128) t d (m, is, low) e = num_from U128 128 m t d refl (λ n. refl) refl is low (subst (λ z. varint_json false 128 z ≡ Some d) is e)
leaf_back (leaves.Integer I16) t d (y, is, low) e = int_from I16 16 y t d refl (λ n. refl) refl is low (subst (λ z. varint_json true 16 z ≡ Some d) is e)
leaf_back (leaves.Integer I32) t d (y, is, low) e = int_from I32 32 y t d refl (λ n. refl) refl is low (subst (λ z. varint_json true 32 z ≡ Some d) is e)
leaf_back (leaves.Integer I64) t d (y, is, low) e = int_from I64 64 y t d refl (λ n. refl) refl is low (subst (λ z. varint_json true 64 z ≡ Some d) is e)
leaf_back (leaves.Integer I128) t d (y, is, low) e = int_from I128 128 y t d refl (λ n. refl) refl is low (subst (λ z. varint_json true 128 z ≡ Some d) is e)
leaf_back (leaves.Float f) (nodes.Group ts) d (us, is, long, each) e =
    let same = same_group ts us is in
    let each' = subst (Each IsByte) (sym same) each in
    let long' : count ts ≡ float_size f = ap count same ∙ long in
    let bits = low_value (bytes_of ts) in
    (bits, ap nodes.Group (fixed_whole Little (float_size f) ts long' each'), subst (IsFloatJson f bits) (some_is (float_json f bits) d e) (float_back f bits (tree_below Little (float_size f) ts long' each')))
leaf_back leaves.Char (nodes.Char c) d r e = sym (some_is (string (encode_utf8 c)) d e)
leaf_back leaves.Str (Text u) d r e = sym (some_is (string u) d e)
leaf_back leaves.Bytes (nodes.Seq ts) d (us, is, few, each) e =
    let each' = subst (Each IsByte) (sym (same_seq ts us is)) each in
    let bs = bytes_of ts in
    (bs, encode_lower bs, bytes_whole ts each', sym (some_is (string (encode_lower bs)) d e), decode_of-encode_lower bs (each_below bs (bytes_are ts each')))
leaf_back (leaves.Fixed order i) (nodes.Group ts) d (us, is, long, each) e =
    let same = same_group ts us is in
    let each' = subst (Each IsByte) (sym same) each in
    let long' : count ts ≡ size_of i = ap count same ∙ long in
    let n = (order_of order).value (bytes_of ts) in
    (n, ap nodes.Group (fixed_whole order (size_of i) ts long' each'), bits_from (is_signed i) i n d (tree_below order (size_of i) ts long' each') e)
leaf_back l t d r e = absurd (cc e)

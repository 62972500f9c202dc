-- The trees of values without parts, and their texts.
use Rattle.std.proofs.Common.{◌≡◌, ℕ, suc, ◌%◌, ◌<◌, ◌^◌, Some, List, [], ◌∷◌, map, length, refl, sym, ap, ◌∙◌, arith}
use Rattle.std.specs.Prelude.{slice_index}
use Rattle.postcard_wire.specs.Tree.{Byte, Seq, trees}
use Rattle.postcard_wire.specs.Reading.{IsByte, IsSeq, IsArray, Each}
use Rattle.postcard_ser.proofs.Elements.{elements_count}
use Rattle.postcard_shape.specs.Base256.{AreBytes}
use Rattle.postcard_schema.specs.Meaning.{integer_reads}
use Rattle.postcard_schema.specs.declared.leaf.ByteOrder.{ByteOrder}
use Rattle.postcard_schema.specs.declared.leaf.Integer.{Integer}
use Rattle.postcard_schema.specs.declared.leaf.Integer.TheVariants.{U8, U16, U32, U64, U128, I8, I16, I32, I64, I128}
use Rattle.postcard_schema.specs.declared.leaf.Leaf.TheVariants as leaves
use Rattle.postcard_value.specs.Numbers.{bytes_of, fixed_tree, integer_tree, order_of, signed_of}
use Rattle.postcard_value.specs.NumberLemmas.{bits_are_of, by_size, spell_modulo, value_of_bytes}
use Rattle.postcard_value_text.specs.{bits_text, is_signed, leaf_text, size_of}

-- The bits that a type has are below 256 ^ its size.
pub low_below : (n : ℕ) (i : Integer) → n % 256 ^ size_of i < 256 ^ size_of i
low_below n = by_size (λ k. n % 256 ^ k < 256 ^ k) (omega arith) (omega arith) (omega arith) (omega arith) (omega arith)

-- The tree of a number is one of its type.
pub is_integer : (i : Integer) (n : ℕ) → integer_reads i (integer_tree i n)
is_integer U8 n = (n % 256 ^ 1, refl, low_below n U8)
is_integer U16 n = (n % 256 ^ 2, refl, low_below n U16)
is_integer U32 n = (n % 256 ^ 4, refl, low_below n U32)
is_integer U64 n = (n % 256 ^ 8, refl, low_below n U64)
is_integer U128 n = (n % 256 ^ 16, refl, low_below n U128)
is_integer I8 n = (n % 256 ^ 1, refl, low_below n I8)
is_integer I16 n = (signed_of 2 (n % 256 ^ 2), refl, (bits_are_of I16 (n % 256 ^ 2) (low_below n I16)).0)
is_integer I32 n = (signed_of 4 (n % 256 ^ 4), refl, (bits_are_of I32 (n % 256 ^ 4) (low_below n I32)).0)
is_integer I64 n = (signed_of 8 (n % 256 ^ 8), refl, (bits_are_of I64 (n % 256 ^ 8) (low_below n I64)).0)
is_integer I128 n = (signed_of 16 (n % 256 ^ 16), refl, (bits_are_of I128 (n % 256 ^ 16) (low_below n I128)).0)

-- The trees of numbers below 256 are bytes.
each_byte : (bs : List ℕ) → ((k : ℕ) → slice_index bs k < 256) → Each IsByte (trees (map Byte bs))
each_byte [] h = tt
each_byte (b ∷ bs) h = ((b, refl, h 0), each_byte bs (λ k. h (suc k)))

pub is_bytes : (bs : List ℕ) → length bs < 2 ^ 64 → ((k : ℕ) → slice_index bs k < 256) → IsSeq IsByte (Seq (trees (map Byte bs)))
is_bytes bs few h = (trees (map Byte bs), refl, omega (arith, few, elements_count Byte bs), each_byte bs h)

bytes_each : (bs : List ℕ) → AreBytes bs → Each IsByte (trees (map Byte bs))
bytes_each [] h = tt
bytes_each (b ∷ bs) h = ((b, refl, h.0), bytes_each bs h.1)

-- The bits of a number of k bytes are an array of k bytes.
pub is_fixed : (order : ByteOrder) (k n : ℕ) → IsArray k IsByte (fixed_tree order k n)
is_fixed order k n =
    let o = order_of order in
    let p = o.spell k n in
    (trees (map Byte p), refl, elements_count Byte p ∙ o.counts k n, bytes_each p (o.bytes k n))

-- The text of a number at its full width is that of the bits that its type has.
pub fixed_shown : (order : ByteOrder) (i : Integer) (n : ℕ) → leaf_text (leaves.Fixed order i) (fixed_tree order (size_of i) n) ≡ Some (bits_text (is_signed i) (size_of i) (n % 256 ^ size_of i))
fixed_shown order i n =
    let o = order_of order in
    ap (λ bs. Some (bits_text (is_signed i) (size_of i) (o.value (bytes_of (trees (map Byte bs)))))) (sym (spell_modulo order i n))
    ∙ ap (λ m. Some (bits_text (is_signed i) (size_of i) m)) (value_of_bytes order (size_of i) (n % 256 ^ size_of i) (low_below n i))

-- The lemmas for proofs of programs that use this library. Such a proof cites no other file of
-- lemmas of these crates.
use Rattle.std.proofs.Common.{◌≡◌, ◌⊎◌, ℕ, ◌+◌, ◌/◌, ◌≤◌, ◌<◌, ◌^◌, inl, inr, ℤ, List, [], ◌∷◌, ◌++◌, length, refl, ap, arith, length-append, encode_utf8, drop, ◌∙◌}
use Rattle.std.proofs.Math.Seq.{drop-append_seam}
use Rattle.std.proofs.lemmas.Str.{length-encode, len_utf8_bounds}
use Rattle.postcard_cobs.specs.Groups.{NoZero, made}
use Rattle.postcard_cobs.proofs.Made as frames
use Rattle.postcard_wire.specs.Number.{digits, zigzag, InRange}
use Rattle.postcard_wire.specs.Tree.{Tree, Trees, Char, Text, Seq, Variant, Then, count, WellFormed}
use Rattle.postcard_wire.specs.Spelling.{Spells, canonical, canonical_all}
use Rattle.postcard_wire.specs.Reading.{IsDelimited}
use Rattle.postcard_wire.proofs.Delimited as delimited
use Rattle.postcard_wire.proofs.Ranged.{zig_below}
use Rattle.postcard_wire.proofs.Shortest as shortest
use Rattle.postcard_wire.proofs.Writing as writing
use Rattle.postcard_shape.specs.Shape.{Shape}
use Rattle.postcard_shape.proofs.Again as again
use Rattle.postcard.specs.Frames.{DecodesTo}
-- How a value that is made of others is written: the calls of its `serialize`, one after the other.
pub use Rattle.postcard_ser.proofs.PartByPart.{wrote_none, wrote_refusal, wrote_err, wrote_ok, wrote_last, wrote_stop, wrote_then, wrote_as, wrote_end, wrote_closes}
-- A call that had room can only fail with an error by which the value refuses itself.
pub use Rattle.postcard_ser.proofs.Refusals.{no_error, succeeds}
-- Sets of trees whose encodings are prefix-free, and whose trees are well formed.
pub use Rattle.postcard_wire.proofs.Delimited.{byte_delimited, boolean_delimited, num_delimited, int_delimited, char_delimited, text_delimited}
pub use Rattle.postcard_wire.proofs.Delimited.{option_delimited, end_delimited, then_delimited, group_delimited, seq_delimited, array_delimited, variant_delimited}
pub use Rattle.postcard_wire.proofs.WellFormed.{byte_well_formed, boolean_well_formed, num_well_formed, int_well_formed, char_well_formed, text_well_formed}
pub use Rattle.postcard_wire.proofs.WellFormed.{option_well_formed, end_well_formed, then_well_formed, group_well_formed, seq_well_formed, array_well_formed, variant_well_formed}
-- The encodings of a list's elements, one after the other, and the number of elements.
pub use Rattle.postcard_ser.proofs.Elements.{elements_count, elements_more, elements_cut}
pub use Rattle.postcard_shape.proofs.Bytes.{bytes_of_bytes}
-- Bytes that were taken from a source, one piece after another.
pub use Rattle.postcard_de_nodes.specs.TakeLemmas.{nothing_taken, both_taken, faces, can_first, can_second}
-- Two things in a row read as one thing; what was read, turned into another value; lack of memory.
pub use Rattle.postcard_de_nodes.specs.CompoundLemmas.{Compound, first_refused, second_refused, both_read}
pub use Rattle.postcard_de_nodes.specs.SeenLemmas.{recast, refused_too, passed_on}
pub use Rattle.postcard_de_nodes.specs.ReadLemmas.{out_of_memory}
-- Elements that are read one by one, after their count or without one.
pub use Rattle.postcard_de.proofs.Lists.{prefixed, Going, going, goes_on, going_stops, going_full, going_done}
pub use Rattle.postcard_de_nodes.specs.CountLemmas.{list_read, list_refused, count_refused}
pub use Rattle.postcard_de.proofs.Parts.{part_and_rest}
-- How a value that is made of others is read: its parts from left to right, or the index and the content of a variant. The first part that
-- can't be read ends the reading.
pub use Rattle.postcard_de_nodes.specs.ReadLemmas.{refusal, is_refusal}
pub use Rattle.postcard_de_nodes.specs.NumberLemmas.{Below}
pub use Rattle.postcard_de.proofs.Parts.{AllAre, NoneIs, and_part, and_fails, stops, no_more}
pub use Rattle.postcard_de.proofs.Parts.{struct_read, struct_fails}
pub use Rattle.postcard_de.proofs.Enums.{index_refused, content_refused, variant_read}
pub use Rattle.postcard_de.proofs.Enums.{unknown_index}
pub use Rattle.postcard_de_nodes.specs.SeenLemmas.{no_room}
-- Errors of parts are among those of a type that allocates.
pub use Rattle.postcard_de_nodes.specs.ErrorLemmas.{with_memory, only_memory}
-- A reading loop of a caller. The lemmas are on the state within a piece, the answers to bytes in a row, and the results of a feed by
-- `take_in`.
pub use Rattle.postcard_accumulator.proofs.ReadLoop.{AtWindow, at_start, at_next, at_end, shorter}
pub use Rattle.postcard_accumulator.proofs.Joining.{joined_law}
pub use Rattle.postcard_accumulator.proofs.Taking.{read_consumed, read_over_full}
pub use Rattle.postcard_accumulator.proofs.Taking.{read_refused, read_err, read_ok}
pub use Rattle.postcard_accumulator.proofs.Fronts.{refused_none, refused_data, value_read}

-- A `u16`, that is, a number below 2^16, takes at most 3 bytes.
pub u16_len : (n : ℕ) → n < 2 ^ 16 → length (digits n) ≤ 3
u16_len = writing.few_16

-- A `u32`, as the index of a variant, takes at most 5 bytes.
pub u32_len : (n : ℕ) → n < 2 ^ 32 → length (digits n) ≤ 5
u32_len = writing.few_32

-- A `u64`, a `usize`, or the count before a string, a list or a map takes at most 10 bytes.
pub u64_len : (n : ℕ) → n < 2 ^ 64 → length (digits n) ≤ 10
u64_len = writing.few_64

-- A `u128` takes at most 19 bytes.
pub u128_len : (n : ℕ) → n < 2 ^ 128 → length (digits n) ≤ 19
u128_len = writing.few_128

-- An `i16` takes at most 3 bytes.
pub i16_len : (z : ℤ) → InRange 16 z → length (digits (zigzag z)) ≤ 3
i16_len z h = u16_len (zigzag z) (zig_below 16 z (inl refl) h)

-- An `i32` takes at most 5 bytes.
pub i32_len : (z : ℤ) → InRange 32 z → length (digits (zigzag z)) ≤ 5
i32_len z h = u32_len (zigzag z) (zig_below 32 z (inr (inl refl)) h)

-- An `i64` or an `isize` takes at most 10 bytes.
pub i64_len : (z : ℤ) → InRange 64 z → length (digits (zigzag z)) ≤ 10
i64_len z h = u64_len (zigzag z) (zig_below 64 z (inr (inr (inl refl))) h)

-- An `i128` takes at most 19 bytes.
pub i128_len : (z : ℤ) → InRange 128 z → length (digits (zigzag z)) ≤ 19
i128_len z h = u128_len (zigzag z) (zig_below 128 z (inr (inr (inr refl))) h)

-- A count below 128 takes at most one byte.
pub short_len : (n : ℕ) → n < 128 → length (digits n) ≤ 1
short_len n h = shortest.length-digits 0 n (omega (arith, h))

-- A character takes at most 5 bytes, its length included.
pub char_len : (c : ℕ) → length (canonical (Char c)) ≤ 5
char_len c =
    let e = length-encode c in
    let b = len_utf8_bounds c in
    let d = short_len (length (encode_utf8 c)) (omega arith) in
    omega (arith, length-append (digits (length (encode_utf8 c))) (encode_utf8 c))

-- The length of a string's encoding is that of its length's varint plus the number of its bytes.
pub text_len : (u : List ℕ) → length (canonical (Text u)) ≡ length (digits (length u)) + length u
text_len u = length-append (digits (length u)) u

-- The length of the encoding of a list, a byte string or a map is that of its count's varint plus
-- that of its elements.
pub seq_len : (ts : Trees) → length (canonical (Seq ts)) ≡ length (digits (count ts)) + length (canonical_all ts)
seq_len ts = length-append (digits (count ts)) (canonical_all ts)

-- The length of the parts of a tuple, a struct or a list is that of the first part plus that of the others.
pub parts_len : (t : Tree) (ts : Trees) → length (canonical_all (Then t ts)) ≡ length (canonical t) + length (canonical_all ts)
parts_len t ts = length-append (canonical t) (canonical_all ts)

-- The length of a variant's encoding is that of its index's varint plus that of its content.
pub variant_len : (i : ℕ) (t : Tree) → length (canonical (Variant i t)) ≡ length (digits i) + length (canonical t)
variant_len i t = length-append (digits i) (canonical t)

-- The canonical encoding of a well formed tree is an accepted one.
pub canonical_spells : (t : Tree) → WellFormed t → Spells t (canonical t)
canonical_spells = shortest.Spells-canonical

-- Any accepted encoding of a tree other than the canonical one is longer.
pub others_longer : (t : Tree) (p : List ℕ) → Spells t p → (p ≡ canonical t) ⊎ (length (canonical t) < length p)
others_longer = shortest.least

-- No accepted encoding of a tree is shorter than its canonical encoding.
pub spelling_len : (t : Tree) (p : List ℕ) → Spells t p → length (canonical t) ≤ length p
spelling_len t p s =
    elim (others_longer t p s) [
      | inl e ↦ omega (arith, ap length e)
      | inr h ↦ omega (arith, h)
    ]

-- The bytes of a value that fits are an accepted encoding of its tree.
pub written_spells : {V : Type 0} (s : Shape V) (v : V) → s.fits v → Spells (s.tree v) (canonical (s.tree v))
written_spells = again.is_spelled

-- The tree of a value that fits is a tree that its type reads, and the value is a value of that tree.
pub comes_back : {V : Type 0} (s : Shape V) (v : V) → s.fits v → s.reads (s.tree v) × s.value (s.tree v) v
comes_back s = s.again

-- Every value of the tree of a value that fits equals that value, as far as the shape tells values apart.
pub looks_alike : {V : Type 0} (s : Shape V) (v w : V) → s.fits v → s.value (s.tree v) w → s.same w v
looks_alike = again.is_same

-- The empty set of trees is prefix-free: the law `delimited` of a shape that reads nothing.
pub none_delimited : IsDelimited (λ t. ⊥)
none_delimited = delimited.none_delimited

-- The made frame of n bytes has at most n + n / 254 + 2 bytes, the zero at its end included.
pub frame_len : (d : List ℕ) → length (made d) ≤ length d + length d / 254 + 2
frame_len = frames.made_length

-- A made frame has just one zero, which is its last byte.
pub frame_ends : (d : List ℕ) → (frame : List ℕ) × NoZero frame × (made d ≡ frame ++ 0 ∷ [])
frame_ends = frames.one_zero

-- The made frame of some bytes decodes to these bytes.
pub frame_decodes : (m d : List ℕ) → m ≡ made d → DecodesTo m d
frame_decodes m d e =
    let f = frames.made_frame d (made d) (frames.made_is_made d) in
    record { frame = f.0; ends = e ∙ f.2; no_zero = f.1; groups = f.3 }

-- The same for a made frame after other bytes.
pub frame_after_decodes : (front all d : List ℕ) → all ≡ front ++ made d → DecodesTo (drop (length front) all) d
frame_after_decodes front all d e =
    frame_decodes (drop (length front) all) d (ap (drop (length front)) e ∙ drop-append_seam front (made d))

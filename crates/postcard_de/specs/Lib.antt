-- The definitions that contracts cite.
pub mod Reads
pub mod Front
pub mod NonZero
pub mod Refuses
pub mod Deserializer
pub mod Unfit
-- The words that clauses of this crate cite, under one path.
pub use Rattle.std.specs.BinaryHeap.{heap_items}
pub use Rattle.std.specs.CStr.{c_string_bytes}
pub use Rattle.std.specs.Ffi.{HasNoNul}
pub use Rattle.std.specs.Float.{binary32, binary64}
pub use Rattle.std.specs.List.Sorted.{IsPermutation}
pub use Rattle.std.specs.Net.Socket.{v6_flowinfo, v6_ip, v6_port, v6_scope_id}
pub use Rattle.std.specs.Option.{IfNone}
pub use Rattle.postcard_wire.specs.Reading.{IsDelimited}
pub use Rattle.postcard_wire.specs.Spelling.{Spells, canonical}
pub use Rattle.postcard_wire.specs.Tree.{Tree}
pub use Rattle.postcard_wire.specs.declared.error.Error.{Error}
pub use Rattle.postcard_shape.specs.Enumerations.{error_index}
pub use Rattle.postcard_shape.specs.Maps.{Puts, PutsKey, PutsPair}
pub use Rattle.postcard_shape.specs.Shape.{HasOne}
pub use Rattle.postcard_de.specs.Front.{ReadsFromBytes, TakesFromBytes}
pub use Rattle.postcard_de.specs.NonZero.{non_zero_i128_node, non_zero_i16_node, non_zero_i32_node}
pub use Rattle.postcard_de.specs.NonZero.{non_zero_i64_node, non_zero_i8_node, non_zero_isize_node}
pub use Rattle.postcard_de.specs.NonZero.{non_zero_u128_node, non_zero_u16_node, non_zero_u32_node}
pub use Rattle.postcard_de.specs.NonZero.{non_zero_u64_node, non_zero_u8_node, non_zero_usize_node}
pub use Rattle.postcard_de.specs.Reads.{BeginsParts, Deserializes, DeserializesCase}
pub use Rattle.postcard_de.specs.Reads.{DeserializesNext, DeserializesNode, DeserializesNothing}
pub use Rattle.postcard_de.specs.Reads.{DeserializesOption, DeserializesParts, DeserializesResult}
pub use Rattle.postcard_de.specs.Reads.{IsUnsupported, boolean_node, byte_node, bytes_node}
pub use Rattle.postcard_de.specs.Reads.{char_node, float_node, int_node, lent_bytes_node}
pub use Rattle.postcard_de.specs.Reads.{lent_text_node, num_node, number_node, seen_node}
pub use Rattle.postcard_de.specs.Reads.{short_text_node, signed_byte_node, source_of, text_node}

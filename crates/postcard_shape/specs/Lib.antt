-- The definitions that contracts cite, and the lemmas that ghost members cite: a file for each way to make a shape.
pub mod Shape
pub mod Leaves
pub mod Rows
pub mod Lists
pub mod First
pub mod Cases
pub mod Options
pub mod Maps
pub mod Spans
pub mod Enumerations
pub mod Only
pub mod Refusing
pub mod Base256
pub mod Floats
pub mod Runs
-- The words that clauses of this crate cite, under one path.
pub use Rattle.std.proofs.Common.{inl, inr}
pub use Rattle.std.specs.Arc.{arc_slice_items, arc_str_bytes}
pub use Rattle.std.specs.BinaryHeap.{heap_items}
pub use Rattle.std.specs.Box.{boxed_slice_items, boxed_str_bytes}
pub use Rattle.std.specs.CStr.{c_str_bytes, c_string_bytes}
pub use Rattle.std.specs.Cow.{cow_slice_items, cow_str_bytes, cow_value}
pub use Rattle.std.specs.Ffi.{HasNoNul}
pub use Rattle.std.specs.Float.{binary32, binary64}
pub use Rattle.std.specs.Float.Ieee.{fits, to_bits}
pub use Rattle.std.specs.Int.NonZero.{non_zero_i128_get, non_zero_i16_get, non_zero_i32_get}
pub use Rattle.std.specs.Int.NonZero.{non_zero_i64_get, non_zero_i8_get, non_zero_isize_get}
pub use Rattle.std.specs.Int.NonZero.{non_zero_u128_get, non_zero_u16_get, non_zero_u32_get}
pub use Rattle.std.specs.Int.NonZero.{non_zero_u64_get, non_zero_u8_get, non_zero_usize_get}
pub use Rattle.std.specs.Mem.{type_size}
pub use Rattle.std.specs.Net.Addr.{ipv4_octets, ipv6_octets}
pub use Rattle.std.specs.Net.Socket.{v4_ip, v4_port, v6_ip, v6_port}
pub use Rattle.std.specs.Option.{IfNone}
pub use Rattle.std.specs.Path.{path_buf_bytes, path_bytes}
pub use Rattle.std.specs.Prelude.{pos, refl, string_bytes}
pub use Rattle.std.specs.Range.{range_inclusive_end, range_inclusive_start}
pub use Rattle.std.specs.Rc.{rc_slice_items, rc_str_bytes}
pub use Rattle.postcard_wire.specs.Spelling.{canonical_all}
pub use Rattle.postcard_wire.specs.Tree.{Byte, Int, Num, trees}
pub use Rattle.postcard_wire.specs.Words.{IsCut, IsNarrow}
pub use Rattle.postcard_shape.specs.Enumerations.{enumeration, error_at, error_back, error_index}
pub use Rattle.postcard_shape.specs.First.{AreFirst, IsBlockOf, IsRowOf, IsWhole}
pub use Rattle.postcard_shape.specs.Floats.{float, float_tree}
pub use Rattle.postcard_shape.specs.Leaves.{boolean, byte, character, int, num, short_text}
pub use Rattle.postcard_shape.specs.Leaves.{signed_byte, text, without}
pub use Rattle.postcard_shape.specs.Lists.{AllFit, Appends, array, few, in_any_order, seq}
pub use Rattle.postcard_shape.specs.Maps.{PutsKey, PutsPair, entries, keys, pair, put_in}
pub use Rattle.postcard_shape.specs.Only.{only}
pub use Rattle.postcard_shape.specs.Options.{option, result}
pub use Rattle.postcard_shape.specs.Rows.{Row, along, group, none, then}
pub use Rattle.postcard_shape.specs.Runs.{AreValuesOf, IsValue, IsVarintOf}
pub use Rattle.postcard_shape.specs.Shape.{growing, via}
pub use Rattle.postcard_shape.specs.Spans.{point_of_time, span_of_time}
pub use Rattle.postcard_shape.specs.declared.cases.Case.TheVariants.{Next, This}

-- The kinds of nodes whose values are numbers that aren't 0, each read as the number, of which 0 is refused.
use Rattle.std.specs.Int.NonZero.{non_zero_u8_get, non_zero_u16_get, non_zero_u32_get, non_zero_u64_get, non_zero_u128_get, non_zero_usize_get}
use Rattle.std.specs.Int.NonZero.{non_zero_i8_get, non_zero_i16_get, non_zero_i32_get, non_zero_i64_get, non_zero_i128_get, non_zero_isize_get}
use Rattle.std.specs.declared.num.NonZeroU8.{NonZeroU8}
use Rattle.std.specs.declared.num.NonZeroU16.{NonZeroU16}
use Rattle.std.specs.declared.num.NonZeroU32.{NonZeroU32}
use Rattle.std.specs.declared.num.NonZeroU64.{NonZeroU64}
use Rattle.std.specs.declared.num.NonZeroU128.{NonZeroU128}
use Rattle.std.specs.declared.num.NonZeroUsize.{NonZeroUsize}
use Rattle.std.specs.declared.num.NonZeroI8.{NonZeroI8}
use Rattle.std.specs.declared.num.NonZeroI16.{NonZeroI16}
use Rattle.std.specs.declared.num.NonZeroI32.{NonZeroI32}
use Rattle.std.specs.declared.num.NonZeroI64.{NonZeroI64}
use Rattle.std.specs.declared.num.NonZeroI128.{NonZeroI128}
use Rattle.std.specs.declared.num.NonZeroIsize.{NonZeroIsize}
use Rattle.postcard_wire.specs.Tree.{Tree}
use Rattle.postcard_de_nodes.specs.Nodes.{Node, seen_node, nonzero_byte_node, nonzero_signed_byte_node}
use Rattle.postcard_de_nodes.specs.Nodes.{nonzero_num_node, nonzero_int_node}

-- A `NonZeroU8`.
abbrev pub non_zero_u8_node : Node Tree NonZeroU8
non_zero_u8_node = seen_node non_zero_u8_get nonzero_byte_node

-- A `NonZeroU16`.
abbrev pub non_zero_u16_node : Node Tree NonZeroU16
non_zero_u16_node = seen_node non_zero_u16_get (nonzero_num_node 16)

-- A `NonZeroU32`.
abbrev pub non_zero_u32_node : Node Tree NonZeroU32
non_zero_u32_node = seen_node non_zero_u32_get (nonzero_num_node 32)

-- A `NonZeroU64`.
abbrev pub non_zero_u64_node : Node Tree NonZeroU64
non_zero_u64_node = seen_node non_zero_u64_get (nonzero_num_node 64)

-- A `NonZeroU128`.
abbrev pub non_zero_u128_node : Node Tree NonZeroU128
non_zero_u128_node = seen_node non_zero_u128_get (nonzero_num_node 128)

-- A `NonZeroUsize`.
abbrev pub non_zero_usize_node : Node Tree NonZeroUsize
non_zero_usize_node = seen_node non_zero_usize_get (nonzero_num_node 64)

-- A `NonZeroI8`.
abbrev pub non_zero_i8_node : Node Tree NonZeroI8
non_zero_i8_node = seen_node non_zero_i8_get nonzero_signed_byte_node

-- A `NonZeroI16`.
abbrev pub non_zero_i16_node : Node Tree NonZeroI16
non_zero_i16_node = seen_node non_zero_i16_get (nonzero_int_node 16)

-- A `NonZeroI32`.
abbrev pub non_zero_i32_node : Node Tree NonZeroI32
non_zero_i32_node = seen_node non_zero_i32_get (nonzero_int_node 32)

-- A `NonZeroI64`.
abbrev pub non_zero_i64_node : Node Tree NonZeroI64
non_zero_i64_node = seen_node non_zero_i64_get (nonzero_int_node 64)

-- A `NonZeroI128`.
abbrev pub non_zero_i128_node : Node Tree NonZeroI128
non_zero_i128_node = seen_node non_zero_i128_get (nonzero_int_node 128)

-- A `NonZeroIsize`.
abbrev pub non_zero_isize_node : Node Tree NonZeroIsize
non_zero_isize_node = seen_node non_zero_isize_get (nonzero_int_node 64)

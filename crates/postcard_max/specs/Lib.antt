-- The definitions that contracts cite, and the lemmas that ghost members cite.
pub mod Sizes
pub mod SizeLimit
pub mod Willing
pub mod Limits
pub mod Counts
pub mod Leaves
pub mod Containers
pub mod Floats
pub mod Rows
pub mod Cases
pub mod CasesLimit
-- The words that clauses of this crate cite, under one path.
pub use Rattle.std.proofs.Common.{inl, inr}
pub use Rattle.std.specs.Float.{binary32, binary64}
pub use Rattle.std.specs.Prelude.{refl}
pub use Rattle.postcard_wire.specs.Spelling.{canonical}
pub use Rattle.postcard_shape.specs.Lists.{AllFit}
pub use Rattle.postcard_shape.specs.Shape.{IsWilling}
pub use Rattle.postcard_max.specs.CasesLimit.{IsCasesLimit, case_lawful, no_case_lawful}
pub use Rattle.postcard_max.specs.CasesLimit.{variants_lawful}
pub use Rattle.postcard_max.specs.Containers.{array_lawful, few_lawful, option_lawful}
pub use Rattle.postcard_max.specs.Containers.{result_lawful}
pub use Rattle.postcard_max.specs.Floats.{float_lawful}
pub use Rattle.postcard_max.specs.Leaves.{boolean_lawful, byte_lawful, char_lawful, int_lawful}
pub use Rattle.postcard_max.specs.Leaves.{nonzero_byte_lawful, nonzero_int_lawful}
pub use Rattle.postcard_max.specs.Leaves.{nonzero_num_lawful, num_lawful, short_text_lawful}
pub use Rattle.postcard_max.specs.Leaves.{span_lawful}
pub use Rattle.postcard_max.specs.Limits.{AreBounded, IsLimit, IsReached, IsRowLimit, via_lawful}
pub use Rattle.postcard_max.specs.Rows.{end_lawful, group_lawful, then_lawful}
pub use Rattle.postcard_max.specs.SizeLimit.{IsSize, IsSum, array_limit, case_limit, exactly}
pub use Rattle.postcard_max.specs.SizeLimit.{few_limit, no_case_limit, option_limit, result_limit}
pub use Rattle.postcard_max.specs.SizeLimit.{short_text_limit, then_limit, variants_limit}
pub use Rattle.postcard_max.specs.Sizes.{greater_of, index_len as len_of, sum_of, times, varint_len}

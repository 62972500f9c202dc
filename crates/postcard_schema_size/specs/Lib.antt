-- The definitions that contracts cite, and their laws.
pub mod Sizes
pub mod Least
pub mod Endless
-- The words that clauses of this crate cite, under one path.
pub use Rattle.postcard_wire.specs.Reading.{IsArray, IsGroup, IsVariant}
pub use Rattle.postcard_max.specs.Limits.{AreBounded, IsReached}
pub use Rattle.postcard_max.specs.Sizes.{greater_of, sum_of, varint_len as len_of}
pub use Rattle.postcard_schema.specs.Meaning.{contents, reads, reads_all, reads_at, type_of}
pub use Rattle.postcard_schema.specs.Meaning.{types_of}
pub use Rattle.postcard_schema.specs.Paths.{plain_path, plain_step}
pub use Rattle.postcard_schema_size.specs.Endless.{after, endless, in_named, in_parts}
pub use Rattle.postcard_schema_size.specs.Endless.{is_endless_leaf}
pub use Rattle.postcard_schema_size.specs.Least.{IsLeastSize, IsVariantAt, leaf_least, lesser_of}
pub use Rattle.postcard_schema_size.specs.Sizes.{integer_greatest, leaf_greatest, limit, limit_all}
pub use Rattle.postcard_schema_size.specs.Sizes.{limit_of_choice, repeated}

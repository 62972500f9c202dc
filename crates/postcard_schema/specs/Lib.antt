pub mod Leaves
pub mod Meaning
pub mod Bounds
pub mod Paths
pub mod Views
pub mod Named
pub mod Lemmas
-- The words that clauses of this crate cite, under one path.
pub use Rattle.std.specs.Fmt.{WritesOnOk}
pub use Rattle.postcard_schema.specs.Leaves.{float_name, float_size, integer_name, is_signed}
pub use Rattle.postcard_schema.specs.Leaves.{leaf_name, order_name, size_of}
pub use Rattle.postcard_schema.specs.Meaning.{contents, has_bytes, some_has_bytes, type_of}
pub use Rattle.postcard_schema.specs.Meaning.{types_of}
pub use Rattle.postcard_schema.specs.Named.{named_fields_text, named_parts_text, named_text, named_variants_text}
pub use Rattle.postcard_schema.specs.Paths.{path_text, placed_text, plain_step, step_text}
pub use Rattle.postcard_schema.specs.Views.{message_type, named_views, view, views}

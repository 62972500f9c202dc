-- The texts of types, and their keys.
pub mod Shape
pub mod Counts
pub mod Keys
-- The words that clauses of this crate cite, under one path.
pub use Rattle.postcard_schema.specs.Leaves.{leaf_name}
pub use Rattle.postcard_schema.specs.Meaning.{contents, type_of, types_of}
pub use Rattle.postcard_schema.specs.Views.{named_views, view, views}
pub use Rattle.postcard_key.specs.Shape.{parts_text, shape_text, variants_text}
pub use Rattle.postcard_schema.specs.Named.{named_fields_text, named_parts_text, named_text, named_variants_text}
pub use Rattle.postcard_key.specs.Counts.{CountsFit}
pub use Rattle.postcard_key.specs.Keys.{Continues, IsKey, IsNamedKey, xz}

-- The nodes of a schema, when some nodes have one, how it is built, and how nodes are written and read.
pub mod Nodes
pub mod Leaves
pub mod Wire
pub mod Variants
pub mod Bounded
pub mod Making
pub mod Building
pub mod Printed
-- The words that clauses of this crate cite, under one path.
pub use Rattle.postcard_de.specs.Reads.{Deserializes}
pub use Rattle.postcard_schema.specs.Meaning.{contents, type_of}
pub use Rattle.postcard_schema.specs.Views.{view}
pub use Rattle.postcard_schema_message.specs.Nodes.{arity, levels, name_text, node_view}
pub use Rattle.postcard_schema_message.specs.Nodes.{node_views, preorder, preorder_all, texts}
pub use Rattle.postcard_schema_message.specs.Bounded.{HasPart, IsBounded, Refuses}
pub use Rattle.postcard_schema.specs.Views.{message_type}
pub use Rattle.postcard_schema_message.specs.Leaves.{integer_index, leaf_at, leaf_back, leaf_index}
pub use Rattle.postcard_schema_message.specs.Printed.{problem_text}
pub use Rattle.postcard_schema_message.specs.Variants.{IsVariantOf}
pub use Rattle.postcard_schema_message.specs.Wire.{row_of}
pub use Rattle.postcard_ser.specs.Writing.{Wrote, encoding}
pub use Rattle.postcard_shape.specs.Enumerations.{enumeration}
pub use Rattle.postcard_shape.specs.Shape.{via}

pub mod Reads
pub mod Refuses
pub mod Unfit
pub mod TakeLemmas
pub mod ErrorLemmas
pub mod ReadLemmas
pub mod NumberLemmas
pub mod CompoundLemmas
pub mod SeenLemmas
pub mod CountLemmas
pub mod ArrayLemmas
pub mod Nodes
pub mod NodeLemmas
-- The words that clauses of this crate cite, under one path.
pub use Rattle.postcard_wire.specs.Tree.{IsWidth}
pub use Rattle.postcard_shape.specs.Shape.{or_memory}
pub use Rattle.postcard_de_nodes.specs.Nodes.{ReadsNode, boolean_node, bytes_node, char_node}
pub use Rattle.postcard_de_nodes.specs.Nodes.{lent_bytes_node, lent_text_node, number_node}
pub use Rattle.postcard_de_nodes.specs.Nodes.{seen_node, short_text_node, text_node}
pub use Rattle.postcard_de_nodes.specs.Reads.{ReadsMore}

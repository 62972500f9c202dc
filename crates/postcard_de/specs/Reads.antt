-- What a call does that reads from a deserializer. The definitions of `postcard_de_nodes`, which say what a
-- reading call does and which kinds of nodes there are, are found here, too, under one path.
pub use Rattle.postcard_de.specs.Deserializer.{source_of, Deserializes, DeserializesNode, DeserializesOption}
pub use Rattle.postcard_de.specs.Deserializer.{DeserializesResult, DeserializesTree, DeserializesParts}
pub use Rattle.postcard_de.specs.Deserializer.{DeserializesCase, DeserializesNext, DeserializesNothing}
pub use Rattle.postcard_de.specs.Deserializer.{BeginsParts, IsUnsupported}
pub use Rattle.postcard_de_nodes.specs.Reads.{IsReadError, Gives, ReadsFrom, Reads, ReadsShape}
pub use Rattle.postcard_de_nodes.specs.Nodes.{Node, ReadsNode, ReadsOption, ReadsResult}
pub use Rattle.postcard_de_nodes.specs.Nodes.{number_node, tree_node, copied_node, seen_node}
pub use Rattle.postcard_de_nodes.specs.Nodes.{byte_node, signed_byte_node, num_node, int_node}
pub use Rattle.postcard_de_nodes.specs.Nodes.{nonzero_byte_node, nonzero_signed_byte_node}
pub use Rattle.postcard_de_nodes.specs.Nodes.{nonzero_num_node, nonzero_int_node, boolean_node}
pub use Rattle.postcard_de_nodes.specs.Nodes.{char_node, lent_text_node, text_node}
pub use Rattle.postcard_de_nodes.specs.Nodes.{short_text_node, lent_bytes_node, bytes_node}
pub use Rattle.postcard_de_nodes.specs.Nodes.{byte_array_node, float_node}

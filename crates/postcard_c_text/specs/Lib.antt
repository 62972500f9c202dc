-- The definitions that contracts cite.
pub mod Messages
-- The words that clauses of this crate cite, under one path.
pub use Rattle.postcard_wire.specs.Spelling.{canonical}
pub use Rattle.postcard_de.specs.Front.{ReadsFront}
pub use Rattle.postcard_schema_text.specs.Grammar.{IsExpression}
pub use Rattle.postcard_schema.specs.Meaning.{reads, type_of}
pub use Rattle.postcard_schema_text.specs.Text.{characters}
pub use Rattle.postcard_value.specs.Tree.{IsTree, tree}
pub use Rattle.postcard_value_text.specs.Layout.{layout_of}
pub use Rattle.postcard_value_text.specs.Shown.{text as text_of_tree}
pub use Rattle.postcard_value_text.specs.Spelled.{SpellsValue}
pub use Rattle.postcard_c_text.specs.Messages.{CopiesOut, Encodes, HasMessage, HasNoMessage}
pub use Rattle.postcard_c_text.specs.Messages.{IsRefused, Shows}

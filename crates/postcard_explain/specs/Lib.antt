pub mod Parts
pub mod Explained
pub mod RefusedLines
pub mod Walking
-- The words that clauses of this crate cite, under one path.
pub use Rattle.std.specs.declared.alloc.Global.{Global}
pub use Rattle.postcard_de.specs.Reads.{IsReadError}
pub use Rattle.postcard_schema.specs.Meaning.{type_of}
pub use Rattle.postcard_schema.specs.declared.schema.Schema.{Schema}
pub use Rattle.postcard_schema.specs.declared.schema.Schema.TheVariants.{Enum, Leaf as AsLeaf}
pub use Rattle.postcard_schema.specs.declared.schema.Schema.TheVariants.{Option}
pub use Rattle.postcard_shape.specs.Shape.{memory}
pub use Rattle.postcard_value.specs.Fronts.{FrontSpells, HasNoFront}
pub use Rattle.postcard_explain.specs.Explained.{ExplainsElements, ExplainsItem, ExplainsMore}
pub use Rattle.postcard_explain.specs.Explained.{ExplainsRow, IsAt, IsExplained, IsLast, IsMore}
pub use Rattle.postcard_explain.specs.Explained.{Opens, bytes_of, deeper}
pub use Rattle.postcard_explain.specs.Parts.{HasItems, item_of, item_type, parts_of, plain_label}
pub use Rattle.postcard_explain.specs.Parts.{at_element, whole}
pub use Rattle.postcard_explain.specs.RefusedLines.{IsExplainedUpTo, IsRefusal, RefusesElements}
pub use Rattle.postcard_explain.specs.RefusedLines.{RefusesItem, RefusesMore, RefusesRow}
pub use Rattle.postcard_explain.specs.Walking.{Walks, WalksValue}
pub use Rattle.postcard_explain.specs.declared.line.Label.TheVariants.{Whole}
pub use Rattle.postcard_explain.specs.declared.line.Line.{Line}

pub mod Numbers
pub mod NumberLemmas
pub mod Tree
pub mod Onto
pub mod TypeLaws
pub mod Shape
pub mod Fronts
pub mod Refused
-- The words that clauses of this crate cite, under one path.
pub use Rattle.std.specs.Prelude.{map}
pub use Rattle.std.specs.declared.alloc.Global.{Global}
pub use Rattle.postcard_wire.specs.Reading.{IsArray, IsByte, IsDelimited, IsGroup, IsOption, IsSeq}
pub use Rattle.postcard_wire.specs.Reading.{IsVariant, ReadsWellFormed}
pub use Rattle.postcard_wire.specs.Spelling.{Spells, SpellsAll, canonical, canonical_all}
pub use Rattle.postcard_wire.specs.Tree.{trees}
pub use Rattle.postcard_shape.specs.Base256.{little}
pub use Rattle.postcard_shape.specs.Leaves.{byte}
pub use Rattle.postcard_shape.specs.Lists.{AreRead, array}
pub use Rattle.postcard_shape.specs.Shape.{memory, never as never_refused}
pub use Rattle.postcard_ser.specs.Finished.{Finished}
pub use Rattle.postcard_ser.specs.Writing.{Wrote, never}
pub use Rattle.postcard_de.specs.Front.{ReadsFront}
pub use Rattle.postcard_de.specs.Reads.{DeserializesTree, IsReadError, Reads, source_of}
pub use Rattle.postcard_fixint.specs.Fixed.{IsFixed, unsigned}
pub use Rattle.postcard_schema.specs.Leaves.{float_size, size_of}
pub use Rattle.postcard_schema.specs.Meaning.{MessageType, contents, entry_of, has_bytes}
pub use Rattle.postcard_schema.specs.Meaning.{integer_reads, leaf_reads, reads, reads_all}
pub use Rattle.postcard_schema.specs.Meaning.{reads_at, type_of, types_of}
pub use Rattle.postcard_schema.specs.declared.leaf.ByteOrder.TheVariants.{Little}
pub use Rattle.postcard_schema.specs.declared.path.Step.{Step}
pub use Rattle.postcard_schema.specs.declared.path.Step.TheVariants.{Element, Part}
pub use Rattle.postcard_schema.specs.declared.schema.Schema.{Schema}
pub use Rattle.postcard_schema.specs.declared.schema.Schema.TheVariants.{Enum, Map, Option, Seq}
pub use Rattle.postcard_schema.specs.declared.schema.Schema.TheVariants.{Struct, Tuple}
pub use Rattle.postcard_value.specs.Fronts.{HasNoFront}
pub use Rattle.postcard_value.specs.Numbers.{IsBitsOf, IsInteger, fixed_tree, integer_tree}
pub use Rattle.postcard_value.specs.Numbers.{order_of, signed_of as number_of}
pub use Rattle.postcard_value.specs.Onto.{ReadsOnto}
pub use Rattle.postcard_value.specs.Refused.{Finds, FindsElement, FindsEntry, IsRefusedAt}
pub use Rattle.postcard_value.specs.Tree.{AreTrees, IsTree, tree}
pub use Rattle.postcard_value.specs.declared.value.Value.{Value}

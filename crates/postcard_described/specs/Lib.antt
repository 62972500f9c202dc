-- The definitions that contracts cite, and the lemmas that ghost members cite.
pub mod SameBytes
pub mod Within
pub mod Sets
pub mod Described
pub mod Messages
pub mod Names
-- The words that clauses of this crate cite, under one path.
pub use Rattle.postcard_wire.specs.Spelling.{Spells, canonical}
pub use Rattle.postcard_shape.specs.Leaves.{short_text_inside}
pub use Rattle.postcard_shape.specs.Shape.{via}
pub use Rattle.postcard_shape.specs.Spans.{span_parts}
pub use Rattle.postcard_schema.specs.Meaning.{array, choice, contents, entry_of, group, leaf}
pub use Rattle.postcard_schema.specs.Meaning.{option, seq, reads}
pub use Rattle.postcard_schema.specs.Meaning.{reads_all, reads_at, row_of, type_of, types_of}
pub use Rattle.postcard_described.specs.Within.{alike}
pub use Rattle.postcard_described.specs.Sets.{array_within, case_within, end_within}
pub use Rattle.postcard_described.specs.Sets.{few_within, group_within, option_within, result_within}
pub use Rattle.postcard_described.specs.Sets.{seq_within, then_within, variants_within}
pub use Rattle.postcard_described.specs.Sets.{array_same, case_same, end_same, few_same, group_same}
pub use Rattle.postcard_described.specs.Sets.{option_same, result_same, seq_same, then_same}
pub use Rattle.postcard_described.specs.Sets.{variants_same}
pub use Rattle.postcard_described.specs.Described.{case_then, no_cases, no_parts, of_array, of_cases}
pub use Rattle.postcard_described.specs.Described.{of_few, of_integer, of_leaf, of_option, of_parts, of_result}
pub use Rattle.postcard_described.specs.Described.{flat_then, of_seq, of_some, part_then}
pub use Rattle.postcard_described.specs.Names.{HasFields, HasVariants, first_text, names_of, text_of}
pub use Rattle.postcard_schema.specs.declared.schema.Schema.{Schema}
pub use Rattle.postcard_described.specs.Described.{of_units, units}

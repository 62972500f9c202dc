pub mod Reading
pub mod Accepted
pub mod Places
pub mod Printed
pub mod Lines
pub mod Values
pub mod Parts
-- The words that clauses of this crate cite, under one path.
pub use Rattle.serde_json.specs.Data.{Data, Items, string}
pub use Rattle.serde_json.specs.Errors.{IsMemory, category}
pub use Rattle.serde_json.specs.Events.{items_len}
pub use Rattle.serde_json.specs.declared.error.Category.{Category}
pub use Rattle.serde_json.specs.Find.{get}
pub use Rattle.serde_json.specs.Read.{read}
pub use Rattle.serde_json.specs.View.{items_view, view}
pub use Rattle.std.specs.Int.{w128}
pub use Rattle.postcard_wire.specs.Tree.{Present, Tree, trees}
pub use Rattle.postcard_schema.specs.Leaves.{is_signed}
pub use Rattle.postcard_schema.specs.Meaning.{contents, leaf as leaf_type, reads, type_of, types_of}
pub use Rattle.postcard_schema.specs.Paths.{path_text, plain_path, plain_step}
pub use Rattle.postcard_schema.specs.declared.schema.Named.{Named}
pub use Rattle.postcard_schema.specs.declared.schema.Schema.{Schema}
pub use Rattle.postcard_schema_text.specs.Names.{IsNewTo, IsTakenIn}
pub use Rattle.postcard_schema_text.specs.Text.{characters, unblank}
pub use Rattle.postcard_value.specs.Tree.{tree}
pub use Rattle.postcard_value_text.specs.Accepted.{AreNamed, HasDistinctNames, HaveDistinctNames}
pub use Rattle.postcard_value_text.specs.Layout.{fields_of, layout_of, layouts_of}
pub use Rattle.postcard_value_text.specs.Layout.{leaf as leaf_layout}
pub use Rattle.postcard_value_json.specs.Written.{alone, json_of}
pub use Rattle.postcard_value_json_read.specs.Accepted.{Answers, AreFieldsReading, ArePartsReading}
pub use Rattle.postcard_value_json_read.specs.Accepted.{Finds, IsContentReading, IsHeldReading}
pub use Rattle.postcard_value_json_read.specs.Accepted.{IsJsonOfVariant, IsMemberReading, IsNameIn}
pub use Rattle.postcard_value_json_read.specs.Accepted.{IsReading, Reads, entry_tree}
pub use Rattle.postcard_value_json_read.specs.Lines.{AreLines, IsLine}
pub use Rattle.postcard_value_json_read.specs.Places.{HasFields, HasPath, IsAt, IsErrorIn}
pub use Rattle.postcard_value_json_read.specs.Places.{IsExpected, IsLengthError, IsPlaceAfter}
pub use Rattle.postcard_value_json_read.specs.Places.{IsPlaceIn, IsPlaceOf, IsTextError, IsWithin}
pub use Rattle.postcard_value_json_read.specs.Parts.{IsItemAt, IsMemberAt, IsPartAt, LeadsTo}
pub use Rattle.postcard_value_json_read.specs.Printed.{colon_after, expected_text, json_error_text}
pub use Rattle.postcard_value_json_read.specs.Printed.{members_text, text_error_text}
pub use Rattle.postcard_value_json_read.specs.Reading.{AreItems, HasMembers, IsBitsJson}
pub use Rattle.postcard_value_json_read.specs.Reading.{IsFloatJson, IsJsonOf, IsJsonText}
pub use Rattle.postcard_value_json_read.specs.Reading.{IsSignedJson, IsUnsignedJson, bits_near, pair}
pub use Rattle.postcard_value_json_read.specs.Values.{AreQuoted, EndsScalar, IsEndOf, IsNested}
pub use Rattle.postcard_value_json_read.specs.Values.{IsScalar, IsString, IsValue, ends_scalar}
pub use Rattle.postcard_value_json_read.specs.Values.{is_closing, is_opening}

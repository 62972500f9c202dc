pub mod Place
pub mod Layout
pub mod Shown
pub mod Printed
pub mod Quoted
pub mod Floats
pub mod Numbers
pub mod Spelled
pub mod Accepted
-- The words that clauses of this crate cite, under one path.
pub use Rattle.std.specs.Prelude.{string_bytes}
pub use Rattle.std.specs.Char.{IsScalar, digit_value, encode_utf8, is_ascii_whitespace}
pub use Rattle.std.specs.Float.{binary32, binary64}
pub use Rattle.std.specs.Fmt.{DisplaysOnOk, WritesOnOk, debug_str, digits}
pub use Rattle.std.specs.Int.{w128}
pub use Rattle.std.specs.List.{AllPass, list_all}
pub use Rattle.std.specs.Str.{IsTrimAsciiStart}
pub use Rattle.std.specs.Str.Parse.{without_leading_plus}
pub use Rattle.postcard_wire.specs.Reading.{Each, IsArray, IsGroup, IsOption, IsSeq, IsVariant}
pub use Rattle.postcard_wire.specs.Tree.{Byte, Group, Tree, Trees, trees}
pub use Rattle.postcard_schema.specs.Leaves.{float_size, is_signed, size_of}
pub use Rattle.postcard_schema.specs.Meaning.{contents, entry_of, group, leaf_reads, no_types}
pub use Rattle.postcard_schema.specs.Meaning.{reads, reads_all, reads_at, type_of, types_of}
pub use Rattle.postcard_schema.specs.declared.schema.Named.{Named}
pub use Rattle.postcard_schema.specs.declared.schema.Schema.{Schema}
pub use Rattle.postcard_schema_text.specs.Literals.{IsLiteral}
pub use Rattle.postcard_schema_text.specs.Text.{EndsWord, IsMaybe, IsSign, IsWord, Led, TakesPhrase}
pub use Rattle.postcard_schema_text.specs.Text.{Then}
pub use Rattle.postcard_value.specs.Tree.{tree}
pub use Rattle.postcard_value_text.specs.Accepted.{Accepts, AreNamed, FollowsValue}
pub use Rattle.postcard_value_text.specs.Accepted.{HasDistinctNames, HaveDistinctNames}
pub use Rattle.postcard_value_text.specs.Accepted.{NamesDiffer, ReadsAs, ReadsItems, ReadsTree}
pub use Rattle.postcard_value_text.specs.Floats.{AreNan, EndsFloat, EndsNumber, IsFloatWord}
pub use Rattle.postcard_value_text.specs.Floats.{IsHexadecimal, ShowsFloat, SpellsFloat, format_of}
pub use Rattle.postcard_value_text.specs.Floats.{is_of_float as is_of_number}
pub use Rattle.postcard_value_text.specs.Layout.{fields_of, has_brackets, is_unit, layout_of}
pub use Rattle.postcard_value_text.specs.Layout.{layouts_of}
pub use Rattle.postcard_value_text.specs.Numbers.{HasBits, IsSigned, IsUnsigned, SpellsBits}
pub use Rattle.postcard_value_text.specs.Place.{IsPlaceIn}
pub use Rattle.postcard_value_text.specs.Printed.{elements_text, expected_text, float_phrase}
pub use Rattle.postcard_value_text.specs.Printed.{leaf_phrase, number_phrase, value_error_text}
pub use Rattle.postcard_value_text.specs.Quoted.{AreDigitsOf, IsByteString, IsCode, IsEscape}
pub use Rattle.postcard_value_text.specs.Quoted.{IsQuoted, StandsFor}
pub use Rattle.postcard_value_text.specs.Shown.{bits_text, each_by, entries_text, entry_text}
pub use Rattle.postcard_value_text.specs.Shown.{field_text, field_texts, fields_text, hexadecimal}
pub use Rattle.postcard_value_text.specs.Shown.{items_text, joined, lead, leaf_text, option_text}
pub use Rattle.postcard_value_text.specs.Shown.{parts_text, stands_for_itself, text, texts}
pub use Rattle.postcard_value_text.specs.Shown.{tuple_end, variant_text}
pub use Rattle.postcard_value_text.specs.Spelled.{AreClosed, InParentheses, IsFieldName, IsQuotedName}
pub use Rattle.postcard_value_text.specs.Spelled.{IsTruth, option_word}
pub use Rattle.postcard_value_text.specs.Spelled.{Row, SpellsArray, SpellsAt, SpellsChoice}
pub use Rattle.postcard_value_text.specs.Spelled.{SpellsContent, SpellsEntry, SpellsField}
pub use Rattle.postcard_value_text.specs.Spelled.{SpellsGroup, SpellsLeaf, SpellsList, SpellsOption}
pub use Rattle.postcard_value_text.specs.Spelled.{SpellsTree, SpellsValue, Unless, field_phrases}
pub use Rattle.postcard_value_text.specs.Spelled.{part_phrases, phrases}

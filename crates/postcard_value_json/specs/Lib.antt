pub mod Written
pub mod Escaped
-- The words that clauses of this crate cite, under one path.
pub use Rattle.json.specs.Lex.{tokens}
pub use Rattle.json.specs.Print.{print}
pub use Rattle.serde_json.specs.Data.{depth, string}
pub use Rattle.serde_json.specs.Find.{of_float}
pub use Rattle.serde_json.specs.Read.{max_depth, read}
pub use Rattle.serde_json.specs.View.{number_view, view}
pub use Rattle.serde_json.specs.Written.{IsInOrder, compact_text, has_float}
pub use Rattle.std.specs.Char.{digit_char, encode_utf8}
pub use Rattle.hex.specs.Hex.{encode_lower}
pub use Rattle.postcard_wire.specs.Tree.{trees}
pub use Rattle.postcard_schema.specs.Leaves.{float_size, is_signed, size_of}
pub use Rattle.postcard_value.specs.Tree.{tree}
pub use Rattle.postcard_value_text.specs.Floats.{format_of}
pub use Rattle.postcard_value_text.specs.Layout.{fields_of, layout_of, layouts_of}
pub use Rattle.postcard_value_json.specs.Escaped.{escaped, escaped_char}
pub use Rattle.postcard_value_json.specs.Written.{alone, bits_json, can_be_null, entry_json}
pub use Rattle.postcard_value_json.specs.Written.{field_writers, fields_json, float_json}
pub use Rattle.postcard_value_json.specs.Written.{items_json, json_of, leaf_json, option_json}
pub use Rattle.postcard_value_json.specs.Written.{parts_json, signed_json, special_text}
pub use Rattle.postcard_value_json.specs.Written.{unsigned_json, variant_json, writers}

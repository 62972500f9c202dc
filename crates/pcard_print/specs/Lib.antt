pub mod Answers
pub mod Lines
-- The words that clauses of this crate cite, under one path.
pub use Rattle.hex.specs.Hex.{encode_lower}
pub use Rattle.json.specs.Print.{quoted}
pub use Rattle.std.specs.Io.KnownBytes.{Appends}
pub use Rattle.postcard_schema.specs.Paths.{path_text, plain_step, step_text}
pub use Rattle.postcard_value.specs.Tree.{tree}
pub use Rattle.postcard_value_text.specs.Layout.{layout_of}
pub use Rattle.postcard_value_text.specs.Shown.{text}
pub use Rattle.pcard_print.specs.Answers.{plain, plain_answer, why}
pub use Rattle.pcard_print.specs.Lines.{AnswerFails, IsJsonOf, Prints, PrintsAnswer, PrintsFirst}
pub use Rattle.pcard_print.specs.Lines.{PrintsJson, PrintsValue, RefusalFails, ValueFails}
pub use Rattle.pcard_print.specs.Lines.{bytes_member, error_words, field_member, hex_member}
pub use Rattle.pcard_print.specs.Lines.{more_text, noun_of, place_text, reason_text, refusal_json}
pub use Rattle.pcard_print.specs.Lines.{refusal_line, refusal_text, shown_member, shown_name}
pub use Rattle.pcard_print.specs.Lines.{shown_text, two_lines, value_text}
pub use Rattle.pcard_print.specs.declared.error.PrintError.TheVariants.{NoJson, OutOfMemory, Output}

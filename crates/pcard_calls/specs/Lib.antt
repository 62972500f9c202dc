pub mod Calls
pub mod Checksums
pub mod Ends
pub mod Explain
pub mod Frames
pub mod Key
pub mod Named
pub mod Names
pub mod Requests
pub mod Size
pub mod Value
-- The words that clauses of this crate cite, under one path.
pub use Rattle.hex.specs.Hex.{encode_lower}
pub use Rattle.std.specs.Io.KnownBytes.{Appends}
pub use Rattle.std.specs.Prelude.{codes, map}
pub use Rattle.postcard_wire.specs.Spelling.{canonical}
pub use Rattle.postcard_schema.specs.Paths.{plain_path}
pub use Rattle.postcard_value_text.specs.Accepted.{HasDistinctNames}
pub use Rattle.postcard_value_text.specs.Layout.{layout_of}
pub use Rattle.postcard_value_text.specs.Shown.{joined}
pub use Rattle.pcard_bytes.specs.declared.checksum.TheConstants.{CATALOG}
pub use Rattle.pcard_bytes.specs.declared.input.TheConstants.{READS}
pub use Rattle.pcard_call.specs.Options.{given_of}
pub use Rattle.pcard_explain.specs.Notes.{plain_trailer}
pub use Rattle.pcard_print.specs.declared.error.PrintError.TheVariants.{NoJson}
pub use Rattle.pcard_print.specs.declared.notation.Notation.TheVariants.{Json}
pub use Rattle.pcard_calls.specs.Calls.{ChecksumsFail, EndsAs, EndsOther, EndsPlain}
pub use Rattle.pcard_calls.specs.Calls.{EndsTyped, is_typed}
pub use Rattle.pcard_calls.specs.Calls.{FailsWith, FramesFailWith}
pub use Rattle.pcard_calls.specs.Calls.{GivenFails, IsGiven, NamedFails, PrintsCall}
pub use Rattle.pcard_calls.specs.Calls.{PrintsChecksums, PrintsFrames, PrintsNamed, PrintsWith}
pub use Rattle.pcard_calls.specs.Calls.{longest_of}
pub use Rattle.pcard_calls.specs.Checksums.{ChecksumFails, PrintsChecksum}
pub use Rattle.pcard_calls.specs.Ends.{Answers, AnswersFailure, IsReported, Reports}
pub use Rattle.pcard_calls.specs.Ends.{exit_status, last_line}
pub use Rattle.pcard_calls.specs.Explain.{ExplainFails, PrintsExplained, PrintsFrameRows}
pub use Rattle.pcard_calls.specs.Explain.{PrintsRowsOf, most_of, trailer_after}
pub use Rattle.pcard_calls.specs.Frames.{FramesFail, PrintsAnswers, answer_line}
pub use Rattle.pcard_calls.specs.Key.{IsKeyOf, KeyFails, PrintsKey}
pub use Rattle.pcard_calls.specs.Named.{Converts, NamedDecodeFails, PrintingFails}
pub use Rattle.pcard_calls.specs.Named.{PrintsNamedDecode, form_of, list_of, one_word, whole_word}
pub use Rattle.pcard_calls.specs.Names.{IsWordOf, begins_expression, looks_like_expression}
pub use Rattle.pcard_calls.specs.Names.{name_of}
pub use Rattle.pcard_calls.specs.Requests.{IsNoCall, IsRequest, IsTypeWord, IsWhyNoCall}
pub use Rattle.pcard_calls.specs.Requests.{first_word, has_colon, is_bare, is_string, no_call_text}
pub use Rattle.pcard_calls.specs.Requests.{second_word, takes_name}
pub use Rattle.pcard_calls.specs.Size.{PrintsSize, SizeFails, bounded_text, endless_text}
pub use Rattle.pcard_calls.specs.Size.{first_text, least_number, others_text, parts_text}
pub use Rattle.pcard_calls.specs.Size.{span_text}
pub use Rattle.pcard_calls.specs.Value.{ReadsScalar, RefusesList, SayEach, parts}
pub use Rattle.pcard_calls.specs.declared.names.TypeWord.{TypeWord}
pub use Rattle.pcard_calls.specs.declared.names.ValueType.{ValueType}

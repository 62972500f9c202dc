pub mod Encoding
pub mod Failures
pub mod Format
pub mod Reading
pub mod Decoding
pub mod Stream
pub mod Receiving
-- The words that clauses of this crate cite, under one path.
pub use Rattle.std.specs.Io.KnownBytes.{Appends}
pub use Rattle.postcard_wire.specs.Spelling.{canonical}
pub use Rattle.postcard_wire.specs.declared.error.Error.TheVariants.{OutOfMemory as MemoryLacks}
pub use Rattle.postcard_cobs.specs.Groups.{IsMade}
pub use Rattle.postcard_schema_text.specs.Grammar.{IsExpression}
pub use Rattle.postcard_value.specs.Tree.{tree}
pub use Rattle.postcard_value_text.specs.Accepted.{HasDistinctNames}
pub use Rattle.postcard_value_text.specs.Layout.{layout_of}
pub use Rattle.pcard_bytes.specs.Checksum.{checksum_name}
pub use Rattle.pcard_call.specs.Options.{given_of}
pub use Rattle.pcard_message.specs.Encoding.{EncodeFails, HasLongEncoding, HasNoValue, IsBody}
pub use Rattle.pcard_message.specs.Encoding.{IsPacked, IsValueOf, PrintsEncoded, SpellsIn}
pub use Rattle.pcard_message.specs.Encoding.{ValueFails, written}
pub use Rattle.pcard_message.specs.Failures.{failure_of_input, failure_of_print, failure_status}
pub use Rattle.pcard_message.specs.Failures.{failure_text, hint_text}
pub use Rattle.pcard_message.specs.Format.{FormatFails, IsFormat, IsNameFailure, IsTypeRefused}
pub use Rattle.pcard_message.specs.Format.{TypeFails}
pub use Rattle.pcard_message.specs.declared.failure.Failure.TheVariants.{Library, Output}
pub use Rattle.postcard_cobs.specs.Groups.{EndsFrame, Groups, NoZero}
pub use Rattle.postcard_de.specs.Reads.{IsReadError}
pub use Rattle.postcard_shape.specs.Shape.{memory}
pub use Rattle.postcard_value.specs.Fronts.{HasNoFront}
pub use Rattle.pcard_print.specs.Answers.{plain_answer, refused}
pub use Rattle.pcard_message.specs.Reading.{IsContentAnswer, IsDataAnswer, IsFrameAnswer, IsNext}
pub use Rattle.pcard_message.specs.Reading.{IsNextData, PrintsAll, PrintsNext}
pub use Rattle.pcard_message.specs.Reading.{PrintsOne, ReadsValue, whole}
pub use Rattle.pcard_message.specs.Decoding.{DecodeAllFails, DecodeFails, LacksBytes, NextFails}
pub use Rattle.pcard_message.specs.Stream.{PrintsLine, PrintsLines, PrintsStream, overfull}
pub use Rattle.pcard_message.specs.Receiving.{Continues, IsSame, LinesFail, PrintsAnswerTo}
pub use Rattle.pcard_message.specs.Receiving.{ReadFails, Reads, StreamFails, line_failure}

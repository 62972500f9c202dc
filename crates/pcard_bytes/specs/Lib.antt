pub mod Checksum
pub mod Hexadecimal
pub mod Input
-- The words that clauses of this crate cite, under one path.
pub use Rattle.hex.specs.Hex.{decode_of}
pub use Rattle.std.specs.Char.{is_ascii_hexdigit, is_ascii_whitespace}
pub use Rattle.std.specs.List.{list_all, position}
pub use Rattle.crc.specs.Algorithm.{parameters}
pub use Rattle.crc.specs.Crc.{IsCrc, IsValid}
pub use Rattle.postcard_schema_text.specs.Text.{characters}
pub use Rattle.pcard_bytes.specs.Checksum.{HasNoTrailer, IsChecksum, IsTrailer, bytes_for}
pub use Rattle.pcard_bytes.specs.Checksum.{checksum_name, checksum_text, parameters_of, trailer_of}
pub use Rattle.pcard_bytes.specs.Hexadecimal.{AreBytesOf, IsLine, IsWord, IsWrongAt, IsWrongHex}
pub use Rattle.pcard_bytes.specs.Hexadecimal.{IsWrongLine, IsWrongWord, SpellsBytes, begins_blank}
pub use Rattle.pcard_bytes.specs.Hexadecimal.{begins_with_byte, begins_with_digits, column_of}
pub use Rattle.pcard_bytes.specs.Hexadecimal.{digits_of, is_dump, is_lone_offset, is_of_hexdump}
pub use Rattle.pcard_bytes.specs.Hexadecimal.{is_of_xxd, is_separator, start_of, up_to, words_of}
pub use Rattle.pcard_bytes.specs.Hexadecimal.{wrong_digit}
pub use Rattle.pcard_bytes.specs.Input.{HexFails, InputFails, IsDigitText, IsInput, ReadsAtLeast}
pub use Rattle.pcard_bytes.specs.Input.{StandsFor}
pub use Rattle.pcard_bytes.specs.declared.input.InputError.TheVariants.{OutOfMemory}

-- The texts that errors print: those of postcard 1.1.3, and one of this port for `OutOfMemory`.
use Rattle.std.specs.Prelude.{ℕ, List, codes}
use Rattle.postcard_wire.specs.declared.error.Error.{Error}
use Rattle.postcard_wire.specs.declared.error.Error.TheVariants.{WontImplement, NotYetImplemented, SerializeBufferFull, SerializeSeqLengthUnknown, DeserializeUnexpectedEnd, DeserializeBadVarint, DeserializeBadBool, DeserializeBadChar, DeserializeBadUtf8, DeserializeBadOption, DeserializeBadEnum, DeserializeBadEncoding, DeserializeBadCrc, SerdeSerCustom, SerdeDeCustom, CollectStrError, OutOfMemory}

-- The text of an error, in ASCII.
abbrev pub error_text : Error → List ℕ
error_text WontImplement = codes "This is a feature that PostCard will never implement"
error_text NotYetImplemented = codes "This is a feature that Postcard intends to support, but does not yet"
error_text SerializeBufferFull = codes "The serialize buffer is full"
error_text SerializeSeqLengthUnknown = codes "The length of a sequence must be known"
error_text DeserializeUnexpectedEnd = codes "Hit the end of buffer, expected more data"
error_text DeserializeBadVarint = codes "Found a varint that didn't terminate. Is the usize too big for this platform?"
error_text DeserializeBadBool = codes "Found a bool that wasn't 0 or 1"
error_text DeserializeBadChar = codes "Found an invalid unicode char"
error_text DeserializeBadUtf8 = codes "Tried to parse invalid utf-8"
error_text DeserializeBadOption = codes "Found an Option discriminant that wasn't 0 or 1"
error_text DeserializeBadEnum = codes "Found an enum discriminant that was > u32::max_value()"
error_text DeserializeBadEncoding = codes "The original data was not well encoded"
error_text DeserializeBadCrc = codes "Bad CRC while deserializing"
error_text SerdeSerCustom = codes "Serde Serialization Error"
error_text SerdeDeCustom = codes "Serde Deserialization Error"
error_text CollectStrError = codes "Error while processing `collect_str` during serialization"
error_text OutOfMemory = codes "Out of memory"

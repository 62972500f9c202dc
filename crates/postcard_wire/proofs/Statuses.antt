-- What holds of the numbers of errors.
use Rattle.std.proofs.Common.{◌<◌, arith}
use Rattle.postcard_wire.specs.declared.error.Error.{Error}
use Rattle.postcard_wire.specs.declared.error.Error.TheVariants.{WontImplement, NotYetImplemented}
use Rattle.postcard_wire.specs.declared.error.Error.TheVariants.{SerializeBufferFull, SerializeSeqLengthUnknown}
use Rattle.postcard_wire.specs.declared.error.Error.TheVariants.{DeserializeUnexpectedEnd, DeserializeBadVarint}
use Rattle.postcard_wire.specs.declared.error.Error.TheVariants.{DeserializeBadBool, DeserializeBadChar}
use Rattle.postcard_wire.specs.declared.error.Error.TheVariants.{DeserializeBadUtf8, DeserializeBadOption}
use Rattle.postcard_wire.specs.declared.error.Error.TheVariants.{DeserializeBadEnum, DeserializeBadEncoding}
use Rattle.postcard_wire.specs.declared.error.Error.TheVariants.{DeserializeBadCrc, SerdeSerCustom}
use Rattle.postcard_wire.specs.declared.error.Error.TheVariants.{SerdeDeCustom, CollectStrError, OutOfMemory}
use Rattle.postcard_wire.specs.Status.{number_of}

-- No error has the number 0.
pub is_failure : (e : Error) → 0 < number_of e
is_failure WontImplement = omega arith
is_failure NotYetImplemented = omega arith
is_failure SerializeBufferFull = omega arith
is_failure SerializeSeqLengthUnknown = omega arith
is_failure DeserializeUnexpectedEnd = omega arith
is_failure DeserializeBadVarint = omega arith
is_failure DeserializeBadBool = omega arith
is_failure DeserializeBadChar = omega arith
is_failure DeserializeBadUtf8 = omega arith
is_failure DeserializeBadOption = omega arith
is_failure DeserializeBadEnum = omega arith
is_failure DeserializeBadEncoding = omega arith
is_failure DeserializeBadCrc = omega arith
is_failure SerdeSerCustom = omega arith
is_failure SerdeDeCustom = omega arith
is_failure CollectStrError = omega arith
is_failure OutOfMemory = omega arith

-- The numbers by which C knows the errors.
use Rattle.std.specs.Prelude.{ℕ}
use Rattle.postcard_wire.specs.declared.error.Error.{Error}
use Rattle.postcard_wire.specs.declared.error.Error.TheVariants.{WontImplement, NotYetImplemented}
use Rattle.postcard_wire.specs.declared.error.Error.TheVariants.{SerializeBufferFull, SerializeSeqLengthUnknown}
use Rattle.postcard_wire.specs.declared.error.Error.TheVariants.{DeserializeUnexpectedEnd, DeserializeBadVarint}
use Rattle.postcard_wire.specs.declared.error.Error.TheVariants.{DeserializeBadBool, DeserializeBadChar}
use Rattle.postcard_wire.specs.declared.error.Error.TheVariants.{DeserializeBadUtf8, DeserializeBadOption}
use Rattle.postcard_wire.specs.declared.error.Error.TheVariants.{DeserializeBadEnum, DeserializeBadEncoding}
use Rattle.postcard_wire.specs.declared.error.Error.TheVariants.{DeserializeBadCrc, SerdeSerCustom}
use Rattle.postcard_wire.specs.declared.error.Error.TheVariants.{SerdeDeCustom, CollectStrError, OutOfMemory}

-- The place of the error in the list of errors of postcard 1.1.3, counted from 0, and after these `OutOfMemory`. The first is 1, since 0 is
-- success; no call for C returns it.
abbrev pub number_of : Error → ℕ
number_of WontImplement = 1
number_of NotYetImplemented = 1
number_of SerializeBufferFull = 2
number_of SerializeSeqLengthUnknown = 3
number_of DeserializeUnexpectedEnd = 4
number_of DeserializeBadVarint = 5
number_of DeserializeBadBool = 6
number_of DeserializeBadChar = 7
number_of DeserializeBadUtf8 = 8
number_of DeserializeBadOption = 9
number_of DeserializeBadEnum = 10
number_of DeserializeBadEncoding = 11
number_of DeserializeBadCrc = 12
number_of SerdeSerCustom = 13
number_of SerdeDeCustom = 14
number_of CollectStrError = 15
number_of OutOfMemory = 16

-- The definitions that contracts cite.
pub mod Writing
pub mod Reading
pub mod Feeding
pub mod Checksums
-- The words that clauses of this crate cite, under one path.
pub use Rattle.std.specs.Char.{IsScalar}
pub use Rattle.std.specs.Int.{cast_signed, cast_unsigned, w128, w8}
pub use Rattle.postcard_wire.specs.Number.{digits}
pub use Rattle.postcard_wire.specs.Reading.{IsBoolean, IsByte, IsChar, IsInt, IsNum, IsSeq, IsText}
pub use Rattle.postcard_wire.specs.Spelling.{canonical}
pub use Rattle.postcard_wire.specs.Tree.{Absent, Boolean, Byte, Char, Int, Num, Seq, Text, trees}
pub use Rattle.postcard_shape.specs.Base256.{big, little}
pub use Rattle.postcard_shape.specs.Lists.{ListIs}
pub use Rattle.crc.specs.Crc.{IsCrc, Parameters}
pub use Rattle.crc.specs.Register.{Holds, next, rounds}
pub use Rattle.postcard_cobs.specs.Groups.{Groups, NoZero, before_zero, made}
pub use Rattle.postcard_cobs.specs.InPlace.{LeavesData}
pub use Rattle.postcard_de.specs.Deserializer.{source_of}
pub use Rattle.postcard_de.specs.Refuses.{BadNumber, BadText, NoneBad, WantsByte, WantsDigit}
pub use Rattle.postcard_de.specs.Refuses.{WantsText}
pub use Rattle.postcard_de.specs.Unfit.{BadBool, BadChar, WantsChar}
pub use Rattle.postcard_frame.specs.Frame.{HasNoData}
pub use Rattle.postcard_accumulator.specs.State.{holding, state_of}
pub use Rattle.postcard_c.specs.Checksums.{GetsCrc, PutsCrc, Reflects, TakesJust, crc_16, crc_32}
pub use Rattle.postcard_c.specs.Feeding.{Feeds, Stands, Takes}
pub use Rattle.postcard_c.specs.Reading.{AreBytesOf, Gets, GetsBytes, GetsFixed, GetsOption}
pub use Rattle.postcard_c.specs.Reading.{Settles, rest_of}
pub use Rattle.postcard_c.specs.Writing.{Fills, Puts, Refuses, WrittenAt}

-- The definitions that contracts cite.
pub mod Writing
pub mod Reading
pub mod Source
pub mod Accepting
pub mod InFrame
pub mod Parts
pub mod Own
pub mod FrameLaws
-- The words that clauses of this crate cite, under one path.
pub use Rattle.std.specs.Borrow.{Array, follows_so, sem, u8}
pub use Rattle.std.specs.Io.KnownBytes.{IsAtEnd}
pub use Rattle.postcard_shape.specs.Shape.{IsWilling}
pub use Rattle.crc.specs.Checked.{low_bytes}
pub use Rattle.crc.specs.Crc.{IsCrc, IsSound, Parameters}
pub use Rattle.crc.specs.Digest.{Took}
pub use Rattle.postcard_cobs.specs.Groups.{before_zero, made}
pub use Rattle.postcard_ser.specs.Writing.{Encodes, EncodesGrowing, IsErrorOf, encoding}
pub use Rattle.postcard_de_flavors.specs.Source.{known}
pub use Rattle.postcard_de.specs.Reads.{IsReadError}
pub use Rattle.postcard_frame.specs.Buffer.{HasDataOf, KeepsFromZero}
pub use Rattle.postcard_accumulator.specs.Feeding.{IsFed}
pub use Rattle.postcard_accumulator.specs.Reading.{IsFedAll, IsReading}
pub use Rattle.postcard_crc.specs.Accepting.{AcceptsFront, AcceptsFrontAndRest, AcceptsWhole}
pub use Rattle.postcard_crc.specs.Accepting.{ReadsBackFront, ReadsBackFrontAndRest, ReadsBackWhole}
pub use Rattle.postcard_crc.specs.Accepting.{RefusesMore}
pub use Rattle.postcard_crc.specs.FrameLaws.{DamageRefused, MessageArrives}
pub use Rattle.postcard_crc.specs.InFrame.{IsReadOf}
pub use Rattle.postcard_crc.specs.Own.{IsOwn}
pub use Rattle.postcard_crc.specs.Parts.{IsDecodedFrame}
pub use Rattle.postcard_crc.specs.Reading.{HasExactErrors, IsDamaged, IsWithCrc, ReadsChecked}
pub use Rattle.postcard_crc.specs.Source.{Finishes, TookBoth, crc_laws}
pub use Rattle.postcard_crc.specs.Writing.{Continues, EndsWithCrc, FinishedWithCrc, FrameFits}
pub use Rattle.postcard_crc.specs.Writing.{HasRoom, IsCrcAfter, IsFrameWithCrc, continues_join}
pub use Rattle.postcard_crc.specs.Writing.{continues_none, front_has_room, rest_has_room}

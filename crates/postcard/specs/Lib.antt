-- The definitions that contracts cite, and the lemmas for proofs of users.
pub mod Buffers
pub mod Attempt
pub mod Frames
pub mod Front
pub mod Filling
pub mod Finished
pub mod Lemmas
pub mod Variants
-- The words that clauses of this crate cite, under one path.
pub use Rattle.std.specs.Borrow.{Array, LendsIfOk, LendsSoOk, sem, u8}
pub use Rattle.std.specs.Io.KnownBytes.{Appends}
pub use Rattle.postcard_wire.specs.Spelling.{Spells, canonical}
pub use Rattle.postcard_wire.specs.Tree.{Tree}
pub use Rattle.postcard_shape.specs.Shape.{Grows, IsWilling, via}
pub use Rattle.postcard_cobs.specs.Groups.{made}
pub use Rattle.postcard_ser.specs.Writing.{Encodes, EncodesGrowing, IsErrorOf, Wrote, encoding}
pub use Rattle.postcard_de_flavors.specs.Source.{Begins}
pub use Rattle.postcard_de.specs.Front.{ReadsFront}
pub use Rattle.postcard_de.specs.Reads.{Deserializes, IsReadError}
pub use Rattle.postcard.specs.Attempt.{IsAttempt, LendsAttempt}
pub use Rattle.postcard.specs.Buffers.{Fills, FillsFront}
pub use Rattle.postcard.specs.Filling.{FillsSlice}
pub use Rattle.postcard.specs.Frames.{DecodesTo, EncodesFrame}
pub use Rattle.postcard.specs.Front.{AcceptsReader, ReadsBackReader, ReadsReader}
pub use Rattle.postcard.specs.Variants.{IsVariantOf}

-- The definitions that contracts cite, in reading order.
pub mod State
pub mod Feeding
pub mod Streams
pub mod Reading
pub mod Values
pub mod Laws
pub mod Messages
-- The words that clauses of this crate cite, under one path.
pub use Rattle.std.specs.Io.KnownBytes.{IsAtEnd}
pub use Rattle.postcard_cobs.specs.Groups.{Groups, NoZero}
pub use Rattle.postcard_accumulator.specs.Feeding.{IsFedHolding}
pub use Rattle.postcard_accumulator.specs.Laws.{AnswersAreOne, CutAtZero, DamageStays, FeedsAnswer}
pub use Rattle.postcard_accumulator.specs.Laws.{FramesAreOne, Joined, NothingAfterZero, Split}
pub use Rattle.postcard_accumulator.specs.Messages.{MessagesArrive}
pub use Rattle.postcard_accumulator.specs.Reading.{IsFedAll}
pub use Rattle.postcard_accumulator.specs.State.{held_of, holding, is_skipping}
pub use Rattle.postcard_accumulator.specs.Values.{IsDecoded, IsFed, IsOwn, IsReadOf, IsReading}
pub use Rattle.postcard_accumulator.specs.Values.{IsTaken}

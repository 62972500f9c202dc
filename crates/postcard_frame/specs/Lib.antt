pub mod Frame
pub mod Buffer
pub mod Parts
-- The words that clauses of this crate cite, under one path.
pub use Rattle.std.specs.Borrow.{Array, follows_if, follows_so, name_if_ok, sem, u8}
pub use Rattle.postcard_cobs.specs.Groups.{before_zero}
pub use Rattle.postcard_frame.specs.Buffer.{HasDataOf, KeepsFromZero, KeepsZero}
pub use Rattle.postcard_frame.specs.Frame.{IsReadOf}
pub use Rattle.postcard_frame.specs.Parts.{IsBeside, IsDecoded}

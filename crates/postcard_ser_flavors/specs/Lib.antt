-- The definitions that contracts cite, and the lemmas that ghost members cite.
pub mod Counted
pub mod Filling
pub mod Flavor
pub mod Held
pub mod Pushing
pub mod Sending
pub mod Slice
pub mod SliceLaws
pub mod SliceStorage
pub mod Storage
pub mod WriterLaws
-- The words that clauses of this crate cite, under one path.
pub use Rattle.arrayvec.specs.Lends.{lends_item}
pub use Rattle.std.specs.Borrow.{Lends, u8 as byte_row, sem, unit as unit_row}
pub use Rattle.std.specs.Io.KnownBytes.{Appends, Keeps}
pub use Rattle.postcard_wire.specs.Number.{digits}
pub use Rattle.postcard_ser_flavors.specs.Counted.{CanCount, Counts, Rises, count_lawful}
pub use Rattle.postcard_ser_flavors.specs.Filling.{PushedToSlice}
pub use Rattle.postcard_ser_flavors.specs.Held.{AnyReached, Appended, HasFreeUpTo, NoRoom, NoneFree}
pub use Rattle.postcard_ser_flavors.specs.Held.{fixed_free, fixed_lawful, fixed_storage}
pub use Rattle.postcard_ser_flavors.specs.Held.{grows_lawful, grows_storage, list_indexed}
pub use Rattle.postcard_ser_flavors.specs.Held.{none_free}
pub use Rattle.postcard_ser_flavors.specs.Pushing.{AlwaysFinalized, FinalizedBy, PushedIfRoom}
pub use Rattle.postcard_ser_flavors.specs.Pushing.{PushedOrFull, PushedWhole}
pub use Rattle.postcard_ser_flavors.specs.Sending.{all_known}
pub use Rattle.postcard_ser_flavors.specs.Slice.{HasRoom, Reaches, held}
pub use Rattle.postcard_ser_flavors.specs.SliceLaws.{slice_lawful}
pub use Rattle.postcard_ser_flavors.specs.SliceStorage.{HasFree, slice_free, slice_indexed}
pub use Rattle.postcard_ser_flavors.specs.SliceStorage.{slice_storage}
pub use Rattle.postcard_ser_flavors.specs.Storage.{IsFree, IsIndexed, IsStorage, SetsByte}
pub use Rattle.postcard_ser_flavors.specs.WriterLaws.{AppendsKnown, writer_lawful}

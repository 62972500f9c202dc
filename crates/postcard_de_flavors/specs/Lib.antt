pub mod Source
pub mod Taking
pub mod SliceLaws
pub mod Reader
pub mod Plain
pub mod IOReader
-- The words that clauses of this crate cite, under one path.
pub use Rattle.std.specs.Borrow.{sem}
pub use Rattle.std.specs.Io.BufRead.{Rests}
pub use Rattle.std.specs.Io.KnownBytes.{Consumes}
pub use Rattle.postcard_de_flavors.specs.IOReader.{CanRead, LendsScratch, MayBecome, left_of}
pub use Rattle.postcard_de_flavors.specs.IOReader.{reader_laws, reader_of, scratch_of}
pub use Rattle.postcard_de_flavors.specs.Plain.{inner_of}
pub use Rattle.postcard_de_flavors.specs.Reader.{AtLeast}
pub use Rattle.postcard_de_flavors.specs.SliceLaws.{slice_laws}
pub use Rattle.postcard_de_flavors.specs.Source.{CanTake, IsEndOf, LeavesRest, known}
pub use Rattle.postcard_de_flavors.specs.Taking.{TakesIfAble, TakesIfEnough}
pub use Rattle.postcard_de_flavors.specs.contracts.io.io.IOReader.{the_row}

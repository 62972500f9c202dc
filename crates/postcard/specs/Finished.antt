-- The output of a flavor once it has ended.
pub use Rattle.postcard_ser.specs.Finished.{Finished}

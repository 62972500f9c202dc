pub mod Home
pub mod Printed
pub mod Marks
pub mod Plain
pub mod Failures
pub mod Places
-- The words that clauses of this crate cite, under one path.
pub use Rattle.std.specs.Io.KnownBytes.{Appends}
pub use Rattle.postcard_schema_text.specs.declared.error.Problem.TheVariants.{OutOfMemory}
pub use Rattle.postcard_source.specs.declared.error.FileProblem.TheVariants.{Expression}
pub use Rattle.pcard_impl.specs.Failures.{Tells, TellsPath, file_problem_status, impl_failure_status, impl_failure_text, impl_problem_status}
pub use Rattle.pcard_impl.specs.Home.{IsHome}
pub use Rattle.pcard_impl.specs.Marks.{IsAlone, IsMarked, IsOpen, IsOutside, marked}
pub use Rattle.pcard_impl.specs.Places.{IsIn}
pub use Rattle.pcard_impl.specs.Plain.{IsPlain, plain_byte}
pub use Rattle.pcard_impl.specs.Printed.{impl_error_text, impl_problem_text}
pub use Rattle.pcard_impl.specs.declared.error.ImplProblem.TheVariants.{File, MarkAlone, MarkOpen}

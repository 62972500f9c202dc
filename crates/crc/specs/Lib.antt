-- The definitions that contracts cite.
pub mod Polynomial
pub mod Crc
pub mod Checked
pub mod Algorithm
pub mod Register
pub mod Digest
pub mod Damage
pub mod Order
pub mod Serving
pub mod Listed
-- The words that clauses of this crate cite, under one path.
pub use Rattle.std.specs.Prelude.{List, ℕ}
pub use Rattle.crc.specs.Algorithm.{parameters}
pub use Rattle.crc.specs.Checked.{AreBytes, IsChecked}
pub use Rattle.crc.specs.Crc.{IsCrc, IsSound, IsValid, Parameters, generator, in_order, message}
pub use Rattle.crc.specs.Damage.{AreTwo, HasOrderFrom, HasParity, IsBurst, IsOddDamage}
pub use Rattle.crc.specs.Digest.{Progress, Took}
pub use Rattle.crc.specs.Listed.{IsListed}
pub use Rattle.crc.specs.Order.{product, shows_order}
pub use Rattle.crc.specs.Polynomial.{Congruent}
pub use Rattle.crc.specs.Register.{AreEntries, IsSumFor, Takes, feedback, first_byte, leaving, next}
pub use Rattle.crc.specs.Register.{read, rounds, staying}
pub use Rattle.crc.specs.Serving.{HasOrderOf, HoldsMore, IsServable, Serve}

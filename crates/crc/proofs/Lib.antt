-- The lemmas, by subject.
pub mod PolynomialLemmas
pub mod ReflectionLemmas
pub mod RegisterLemmas
pub mod MessageLemmas
pub mod CrcLemmas
pub mod DigestLemmas
pub mod CheckedLemmas
pub mod EightLemmas
pub mod OrderLemmas
pub mod Divisors
pub mod PowerLemmas
pub mod PrimeOrder
mod Orders
mod ListedLemmas

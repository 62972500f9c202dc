pub mod DigitLemmas
pub mod PastedLemmas
pub mod InputLemmas

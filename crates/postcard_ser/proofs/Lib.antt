-- The lemmas, by subject.
pub mod PartByPart
pub mod Refusals
pub mod Elements
pub mod Pieces
pub mod Entries
pub mod Printed
pub mod Walked

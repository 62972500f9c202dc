-- The lemmas, by subject.
pub mod Served
pub mod Alike
pub mod Splices
pub mod Varints
pub mod Consequences
pub mod Fronts
pub mod ByKind
pub mod Flattening
pub mod Messages
pub mod Telling
pub mod LeafWords
pub mod Verdicts
pub mod Equality

-- The lemmas, by subject.
pub mod Sums
mod Integers
pub mod Holds
pub mod LeafLeast
pub mod LeastLemmas
pub mod Rows
pub mod EndlessLemmas

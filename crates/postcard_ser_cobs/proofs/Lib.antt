-- The lemmas, by subject.
pub mod StepLemmas
pub mod RunLemmas
pub mod PieceLemmas
pub mod NumberLemmas

-- The lemmas, by subject.
pub mod Decided
pub mod Fronts
pub mod Declared
pub mod Recursion
pub mod Spelled
pub mod Openings
pub mod Limits
pub mod Files
pub mod Runs
pub mod Gaps
pub mod Shorter
pub mod Discriminants
pub mod Comments
pub mod RawFronts

-- The lemmas, by subject.
pub mod Fitting
pub mod Ordered
pub mod Again
pub mod Bytes
pub mod Sums
pub mod Floats
pub mod FloatLanes
pub mod Distinct
pub mod Varints
pub mod OneByte
pub mod Counted

-- Lemmas, in reading order.
pub mod Cutting
pub mod Fronts
pub mod Holding
pub mod Taking
pub mod Feeding
pub mod Joining
pub mod Splitting
pub mod Alike
pub mod Arriving
pub mod ReadLoop

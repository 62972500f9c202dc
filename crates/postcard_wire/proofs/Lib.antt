-- The lemmas, by subject.
pub mod Numbers
pub mod Writing
pub mod Lengths
pub mod Pushed
pub mod Refused
pub mod Statuses
pub mod Ranged
pub mod Folded
pub mod Shortest
pub mod Delimited
pub mod WellFormed
pub mod Listed
pub mod WordBits
pub mod WordTables
pub mod Runs

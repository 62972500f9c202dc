-- The lemmas, by subject.
pub mod Bytes
pub mod Damage
pub mod Ending
pub mod Errors
pub mod Split
pub mod Room
pub mod Framed
pub mod Decoding
pub mod InFrame
pub mod Own

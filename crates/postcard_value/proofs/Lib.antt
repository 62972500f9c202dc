pub mod Rows
pub mod Nodes
pub mod Bytes
pub mod FrontLemmas
pub mod PlaceLemmas

pub mod Trailer
pub mod Links

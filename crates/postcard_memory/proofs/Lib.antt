pub mod Steps
pub mod Parts
pub mod BytesParts
pub mod Lending
pub mod Sharing
pub mod Reading
pub mod Prefix
pub mod Suffix

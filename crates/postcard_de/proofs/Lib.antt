pub mod Lists
pub mod Parts
pub mod Enums
pub mod Options
pub mod Entries
pub mod Groups
pub mod Mapped
mod Addresses
pub mod CStrings
pub mod Alike
mod Zeros

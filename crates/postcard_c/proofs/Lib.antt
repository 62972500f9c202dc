pub mod Bytes
pub mod Checksums
pub mod Fixed
pub mod Framed
pub mod Places
pub mod Reading
pub mod Taking

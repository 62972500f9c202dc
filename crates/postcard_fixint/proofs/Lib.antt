pub mod Bytes
pub mod Spelled
mod Bytewise
mod Numbers

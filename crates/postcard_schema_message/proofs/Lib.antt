pub mod Rows
pub mod Refused
pub mod Pushed
pub mod Made
pub mod ByKind
pub mod Built
pub mod Whole
pub mod Alike

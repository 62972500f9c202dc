pub mod Rows
pub mod Escapes
pub mod EscapedTokens

pub mod Lookup
pub mod Tokens
pub mod Left
pub mod Parts

pub mod Kept
pub mod Storing

pub mod Runs
pub mod Blocks
pub mod Texts
pub mod Names
pub mod Buffers

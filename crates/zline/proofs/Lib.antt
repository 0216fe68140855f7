pub mod Blocks
pub mod Keeping
mod Worked

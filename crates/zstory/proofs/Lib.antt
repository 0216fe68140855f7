pub mod Computed
pub mod Counting
pub mod Neighbours
pub mod Soundness
pub mod Loads
mod Worked

pub mod Reached
pub mod Lying
pub mod Summing
mod Pieces
mod Buffers
mod Beginnings
pub mod Named
mod Worked

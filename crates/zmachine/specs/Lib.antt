pub mod Steps
pub mod Room
pub mod Rows
pub mod Machine
pub mod Resuming
pub mod Parts
pub mod Standing

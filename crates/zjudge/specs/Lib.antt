pub mod Frames
pub mod Memory
pub mod Judging
pub mod View
pub mod Parts

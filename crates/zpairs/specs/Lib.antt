pub mod Frozen
pub mod Fixed
pub mod Ends
pub mod Cells
pub mod Pairs
pub mod Blocks
pub mod Rows
pub mod Members

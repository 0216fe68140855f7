pub mod Transfer
pub mod Kept
pub mod View
pub mod Lent
pub mod Flow

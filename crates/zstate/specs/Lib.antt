pub mod InTurn
pub mod State
pub mod Step
pub mod Saves
pub mod Saved
pub mod Run
pub mod Gives
pub mod Packed

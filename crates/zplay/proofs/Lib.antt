pub mod Accepting
pub mod Playing
pub mod Resumed
pub mod Kept
mod Giving
mod Short
mod Asked
mod Saving
mod Machine
mod Worked

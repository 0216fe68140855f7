mod Apart
mod Ascii
mod Worked
mod WorkedUnplayed
pub mod Followed
pub mod Counted
pub mod Entries

mod Matched
pub mod Entered
mod Worked

pub mod Running
pub mod Excused
mod Worked

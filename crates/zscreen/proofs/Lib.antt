pub mod Joins
mod Marks
mod Writes
mod Worked

pub mod Words
mod Worked

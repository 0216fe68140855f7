mod Lines
pub mod Members
mod OneLine
mod Worked

pub mod Texts
pub mod Parts
pub mod Printed
pub mod Outcomes
pub mod Sameness
pub mod Printable
mod KnownEnds
mod Plainness
mod Worked
mod Table
mod Steps
mod Typing

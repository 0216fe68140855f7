pub mod Order
mod Found
mod Runs
pub mod Parts
mod Exact
mod Worked

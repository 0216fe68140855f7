pub mod Small
mod Worked

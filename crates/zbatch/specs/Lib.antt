pub mod Naming
pub mod Working
pub mod Summary

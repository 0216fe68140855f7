pub mod Accepted
pub mod Session
pub mod Calls
pub mod Keeping

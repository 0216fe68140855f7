pub mod Finding
pub mod Found
pub mod Attempts
pub mod Marking

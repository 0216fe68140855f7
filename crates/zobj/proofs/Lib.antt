pub mod Tables
pub mod Bytes
pub mod Bits
pub mod Keeping
pub mod Puts
pub mod Lists
pub mod Rows
pub mod Answering
mod Worked

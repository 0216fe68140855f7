mod Names
pub mod Counts
pub mod Goes
mod Worked

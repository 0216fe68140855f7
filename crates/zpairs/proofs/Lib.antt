mod Tables
pub mod Telling
mod Marking
mod Found
mod Listed
mod Tests
mod Each
pub mod Hulls
pub mod Lying
pub mod Ranged
mod Regrouped
mod ByNumber
mod Words
mod Worked

mod Worked
mod WorkedFaults
mod WorkedPlaces
mod Reachable
pub mod Rising
pub mod Tables
pub mod Orders
pub mod ListingLaws
pub mod Outside
pub mod Marking
pub mod Reaching
pub mod Reached
pub mod Faults
pub mod Lowest
pub mod Calls
pub mod Records

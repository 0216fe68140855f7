mod Changing
mod Tables
mod Lists
pub mod Each
pub mod Staying
mod Worked
mod WorkedPlaces

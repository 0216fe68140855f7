mod Order
mod Again
mod Takes
pub mod Numbers
pub mod Words
pub mod Steps
pub mod Loops
pub mod Saves
mod Written
pub mod Worked
mod WorkedCauses
pub mod Causes
pub mod Lowest

pub mod Calls
pub mod Effects
mod InTurn
pub mod Joins
mod Held
pub mod Keeps
mod Piles
pub mod Locals
pub mod Opens
pub mod Quiet
mod Packing
mod Reading
pub mod Saves
mod Stacks
pub mod Steps
mod Words
mod Worked
mod WorkedCall
mod WorkedNeeds
mod WorkedOrders
mod WorkedSaves
mod WorkedTables

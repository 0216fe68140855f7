pub mod Orders
pub mod Gathering
pub mod Among
pub mod Bits
pub mod Ends
pub mod Inclusion
pub mod Reading
mod Worked
mod WorkedLists
pub mod One
pub mod Listing
pub mod Going
pub mod Reaching

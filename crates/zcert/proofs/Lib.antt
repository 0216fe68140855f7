mod Sample
mod Worked
mod WorkedLists
mod WorkedMarks
mod WorkedFacts
pub mod Bare
pub mod Found
pub mod Only
pub mod Rest
pub mod Stores
pub mod Taken
pub mod Calls
pub mod FieldBytes
pub mod Makes
pub mod Rising
pub mod Lookup
pub mod Follows
pub mod Pieces
pub mod Fixed
pub mod Uncut
pub mod Room
pub mod Refused
pub mod Words
pub mod Fronts
pub mod Limit
pub mod Marked
pub mod Stated

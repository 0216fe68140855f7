mod Ascii
pub mod Cuts
pub mod Escaped
pub mod Going
pub mod Lasts
mod Printable
pub mod Series
mod Strings
pub mod Tags
mod Worked
mod WorkedFiles
mod WorkedPlaces
mod WorkedRecords
mod WorkedTelling

pub mod Listing
pub mod Numbering
pub mod Listed
pub mod Labels

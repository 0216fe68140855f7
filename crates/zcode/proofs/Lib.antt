mod TypeBytes
mod Kept
pub mod Steps
pub mod FoundHead
pub mod FoundParts
pub mod Found
pub mod Only
pub mod ReadingLaws
mod Tails
mod Inline
mod Standard
mod Worked
pub mod Operating
pub mod Ranges

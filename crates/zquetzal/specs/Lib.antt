pub mod Saved
pub mod Grammar
pub mod Steps
pub mod Reading
pub mod Refusal
pub mod Causes
pub mod Survey
pub mod View

pub mod Numbers
pub mod Tables
pub mod Passes
pub mod Acceptance
pub mod Streaming
pub mod Marks
pub mod Judged
pub mod Bare

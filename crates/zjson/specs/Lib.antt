pub mod Objects
pub mod Digest
pub mod Answers

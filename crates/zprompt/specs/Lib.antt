pub mod Answers
pub mod Commands
pub mod Ends
pub mod Given
pub mod Manners
pub mod Prompts
pub mod Turns

pub mod Bytes
pub mod Header
pub mod Objects
pub mod Dictionary
pub mod LoadedStory
pub mod Loading
pub mod Refusal

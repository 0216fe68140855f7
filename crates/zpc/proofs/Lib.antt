pub mod Stack
mod Kept
mod WorkedWords

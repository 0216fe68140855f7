mod Calls
mod Ends
mod Kept
mod Plays

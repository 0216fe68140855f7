mod Apart
mod Order
mod First
mod Globals
mod Places
mod Lists
mod Heads
mod Trees
pub mod Headline
pub mod Saves
mod Streams
mod Worked
mod WorkedHeadline
mod WorkedStreams
pub mod Instances
mod Marks

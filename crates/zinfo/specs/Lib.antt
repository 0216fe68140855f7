pub mod Info
pub mod Shown
pub mod Text
pub mod Beside
pub mod Object
pub mod Unplayed
pub mod Walked

pub mod Devices
pub mod Lines
pub mod Outside
pub mod Playing
pub mod Stories
pub mod World
pub mod Leniently
pub mod LenientCalls

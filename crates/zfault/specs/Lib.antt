pub mod Adapters
pub mod Answers
pub mod Devices
pub mod Fault
pub mod Items
pub mod Line

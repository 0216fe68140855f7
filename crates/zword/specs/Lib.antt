pub mod Unary
pub mod Binary
pub mod Question
pub mod Count
pub mod Addressing

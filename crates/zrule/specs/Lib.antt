pub mod Claims
pub mod Numbers
pub mod Rules
pub mod Edges
pub mod Blocks
pub mod Described

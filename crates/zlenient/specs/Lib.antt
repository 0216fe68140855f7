pub mod Customary
pub mod Step
pub mod Run
pub mod Laws
pub mod Answer
pub mod Front
pub mod Nops

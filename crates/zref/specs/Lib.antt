pub mod Machine
pub mod Excusing
pub mod Keeping

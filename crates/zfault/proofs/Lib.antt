mod Worked
pub mod DeviceLemmas
pub mod ItemLemmas
mod LineLemmas

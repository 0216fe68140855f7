mod Alike
mod Same
mod Going
mod Course
mod Beginning
mod Judging
mod Giving
mod Telling
mod Holding
mod Writable
mod Walking
mod Backs
mod Restoring
mod Worked
pub mod Stood

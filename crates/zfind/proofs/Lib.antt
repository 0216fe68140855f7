mod Failures
mod Telling
mod Worked
mod Named
mod Marked

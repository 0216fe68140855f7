mod Runs
mod Cutting
mod Judged
mod Made
mod Worked
mod Handed

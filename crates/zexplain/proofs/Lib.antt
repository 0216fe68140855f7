mod Among
mod Joined
mod Stops
mod Worked

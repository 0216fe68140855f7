pub mod Below
pub mod Unchanged
mod Covering
pub mod Ordered
mod Order
pub mod Listed
mod Whatever
pub mod Answering
mod Printing
pub mod Storing
pub mod Standing
pub mod Drawing
mod Hearing
mod Asking
pub mod Sets
mod Memory
mod Told
mod Implied
mod Fitting
mod Framed
mod Assigned
mod Settling
mod Parts
pub mod Stepping
pub mod Called
mod Calling
mod Together
mod Behind
mod Supplied
mod Pieces
pub mod Opening
pub mod Given
pub mod Landing
pub mod Safety
pub mod Able
pub mod Steps
pub mod Relied
pub mod Rewriting
pub mod Restarting
pub mod Elsewhere
pub mod Runs
pub mod Alike
mod Worked
mod WorkedApart
mod WorkedStatic
pub mod Instances

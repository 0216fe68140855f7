mod Counted
mod Slots
mod Changes
mod GlobalSets
mod Operands
mod Answering
mod Worked
mod WorkedDemands

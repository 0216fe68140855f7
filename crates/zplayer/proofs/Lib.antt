mod ReadLemmas
mod Stages
mod Reaches
mod Writes
mod Ends
mod Worked
mod Noted

pub mod Apart
pub mod Cuts
pub mod Determined
pub mod Ending
pub mod Feeding
pub mod Flushing
pub mod Framed
pub mod LineLaws
pub mod Lines
pub mod Lining
pub mod Paging
pub mod Parting
pub mod Sides
pub mod Sinking
pub mod Spaces
pub mod Taking
pub mod Tellings
pub mod Tops
mod WorkedHeadings
mod WorkedLines
mod WorkedPages
mod WorkedRecords
mod WorkedScreens
mod WorkedSourced
mod WorkedToldLines
mod WorkedTurns
mod WorkedWrapping

pub mod Numbered
mod Determined
mod Held
pub mod Values
pub mod Given
mod Puts
mod Below
pub mod Positions
mod EachEntry
mod Begun
mod BegunTables
mod BegunRows
mod BegunNumbers
pub mod Belong

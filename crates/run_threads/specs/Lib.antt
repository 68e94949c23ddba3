pub mod Tally
pub mod Inputs
pub mod Appending
pub mod Clocks
pub mod History

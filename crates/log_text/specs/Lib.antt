pub mod Columns
pub mod Writes
pub mod Entries
pub mod Bodies
pub mod File
pub mod Read
pub mod Loops

mod Releasing
mod Trying
mod Counting
mod Following
mod Executing
pub mod Ending
mod Telling

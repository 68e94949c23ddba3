pub mod Steps
pub mod Ending

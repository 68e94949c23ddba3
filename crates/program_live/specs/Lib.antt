pub mod Population
pub mod Live
pub mod Resumed
pub mod Breaks

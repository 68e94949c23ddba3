pub mod World
pub mod Events
pub mod Surviving

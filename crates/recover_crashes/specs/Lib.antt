pub mod World
pub mod Events
pub mod Recovering
pub mod Keeping
pub mod Lanes

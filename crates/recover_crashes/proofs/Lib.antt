pub mod Lists
pub mod Marks
pub mod Histories
pub mod Joins
pub mod Holding
pub mod Disks
pub mod Lanes
mod Batches
pub mod Sound
pub mod Opened
pub mod Crashed

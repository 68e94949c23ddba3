pub mod Bounds
pub mod Written
pub mod Ends

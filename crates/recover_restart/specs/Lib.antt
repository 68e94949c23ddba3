pub mod Declaring
pub mod Basing
pub mod Restarting
pub mod Lives

pub mod Voids
mod Restarts
pub mod Worlds
pub mod Replayed
mod Falls
mod Ends
mod WorkedFiles
mod WorkedLives

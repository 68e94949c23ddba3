pub mod Standing
mod Owned
mod Moves
mod Allowing
pub mod Dealing
mod Loads

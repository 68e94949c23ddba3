mod NoteLists
mod Held
mod Words
mod WordBits
mod Invariant
mod Turns
mod Stores
mod Order
mod Events
mod Sound
pub mod Woven
mod Runs
mod Stages
pub mod Locked
pub mod OwnEvents
pub mod Current

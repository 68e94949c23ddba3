pub mod Turns
mod Texts
pub mod Parts
pub mod Within
pub mod Lawful
pub mod Following

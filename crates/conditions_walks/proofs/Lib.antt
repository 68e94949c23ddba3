pub mod Added
mod Walked

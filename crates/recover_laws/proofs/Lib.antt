mod Places
mod Parts
mod Logged
mod Rows
mod Walk
mod Recovered
pub mod Joined

pub mod Logged
pub mod Following

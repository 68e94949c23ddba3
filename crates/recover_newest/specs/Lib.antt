pub mod Latest
pub mod Known
pub mod Putting

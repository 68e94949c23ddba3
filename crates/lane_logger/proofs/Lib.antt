mod Called
mod Agreed
mod Turned
pub mod Found

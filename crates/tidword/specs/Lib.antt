pub mod TidWord
pub mod Lawful

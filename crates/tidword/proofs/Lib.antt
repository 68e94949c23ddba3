pub mod Words
pub mod Sequences
pub mod Taken

pub mod Turns
pub mod Written
pub mod Answered
pub mod Hints

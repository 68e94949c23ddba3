pub mod Words
pub mod Steps
pub mod Rule
pub mod Plays
pub mod Dealing
pub mod Seats
pub mod Publishing
pub mod Opening

pub mod Outbox
pub mod Calls
pub mod Tries
pub mod Terminal
pub mod Telling

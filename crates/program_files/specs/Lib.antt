pub mod Causes
pub mod Headless
pub mod Logs

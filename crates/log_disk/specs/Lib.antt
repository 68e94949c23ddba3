pub mod Calls
pub mod Crashes
pub mod Memory
pub mod Replayed

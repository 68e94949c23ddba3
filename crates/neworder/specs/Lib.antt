pub mod Steps
pub mod Held
pub mod Opening
pub mod Priced
pub mod Replied
pub mod Executed

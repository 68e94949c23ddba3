pub mod Amounts
pub mod Running
pub mod Walk

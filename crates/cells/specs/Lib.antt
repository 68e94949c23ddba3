pub mod Versions
pub mod Records
pub mod First

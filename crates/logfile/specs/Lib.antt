pub mod Staged
pub mod Standing
pub mod Called
pub mod Appended
pub mod Refused

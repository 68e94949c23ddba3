pub mod Text
pub mod Told
pub mod Flaws
pub mod Far

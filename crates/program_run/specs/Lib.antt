pub mod Told
pub mod Outfit

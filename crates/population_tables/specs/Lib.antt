pub mod Plain
pub mod Seeded
pub mod First
pub mod Adds

pub mod Held
pub mod Puts
pub mod Newest
pub mod Begun
pub mod Building

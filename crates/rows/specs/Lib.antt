pub mod Columns
pub mod Determined
pub mod Laws
pub mod Reading

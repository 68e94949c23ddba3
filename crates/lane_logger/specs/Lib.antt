pub mod Lane
pub mod Found

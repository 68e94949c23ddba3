pub mod Found
pub mod Spans
pub mod Rebuilt

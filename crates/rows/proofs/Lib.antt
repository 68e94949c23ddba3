pub mod Found
mod Seven

pub mod Unique
pub mod Prices
pub mod Rates
pub mod Credits
pub mod Initial

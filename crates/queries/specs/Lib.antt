pub mod Lines
pub mod SoldItems
pub mod ItemSet

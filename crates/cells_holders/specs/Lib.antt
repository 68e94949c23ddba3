pub mod Records
pub mod Pages
pub mod Opening

pub mod Memory
pub mod Status
pub mod Detail
pub mod Info
pub mod Run

pub mod Lawful
pub mod Payments
